-- `files::plain_refusal` meets its contract.
use Rattle.theory.specs.Joined.{whole_contents}
use native.Mathlib.Omega.{arith}
use mathlib.Core.Path.{sym}
use Rattle.rules.specs.Refusals.{refused}
use Rattle.reader.proofs.Kept.{kept_to_7}
use Rattle.reader.proofs.files.plain_refusal.Goals as goal

pub body_of-requires : goal.body_of-requires
unfolding refused
body_of-requires c =
    let a = c.args in
    let k = kept_to_7 a.edition a.entries a.f.now (sym c.in_ok-network_refusal.ensures) in
    (omega arith, omega arith, whole_contents a.edition a.entries a.f.now k.contents, k.bodies)
