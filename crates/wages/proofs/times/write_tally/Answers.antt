-- `times::write_tally` meets its contract: one number behind the other.
use native.Mathlib.Omega.{arith}
use mathlib.Core.Path.{◌∙◌, ap}
use Rattle.model.specs.Bytes.{bytes16, bytes32, bytes64, splice}
use Rattle.theory.specs.Splices.{splice_then}
use Rattle.wages.proofs.times.write_tally.Goals as goal

pub returns : goal.returns
unfolding bytes32 bytes16
returns c =
    let a = c.args in
    c.write64.ensures ∙ (ap (splice _ _) c.write32.ensures
    ∙ splice_then a.out.now a.at (bytes32 a.tally.marked) (omega (arith, c.requires)) (bytes64 a.tally.total))
