-- `numbers::is_open` meets its contract. Assumes nothing.
use native.Mathlib.Omega.{arith}
use Rattle.convert.proofs.Finding.{open_past, open_there}
use Rattle.convert.proofs.numbers.is_open.Goals as goal

pub returns-then-closed-at : goal.returns-then-closed-at
returns-then-closed-at c = open_past _ _ _ c.requires c.closed_before-at.ensures c.if-closed-at.true

pub returns : goal.returns
returns c = open_there _ _ _ c.requires c.closed_before-at.ensures _ (omega arith) c.number.ensures.0
