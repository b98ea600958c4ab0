-- `positions::head_in` meets its contract: for one node there is no word.
use native.Mathlib.Omega.{arith}
use Rattle.index.proofs.Places.{heads_fit, read_none}
use Rattle.index.proofs.positions.head_in.Goals as goal

pub returns-then-n-lt2 : goal.returns-then-n-lt2
returns-then-n-lt2 c = read_none _ _ c.requires.2 c.if-n-lt2.true _

pub entry_in-requires : goal.entry_in-requires
entry_in-requires c =
    let a = c.args in
    (c.requires.0, c.requires.1, c.requires.2, omega (arith, heads_fit a.n a.work.now c.requires.2 (omega arith)))
