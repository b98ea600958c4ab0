-- `sheets::put_head` meets its contract. Assumes nothing.
use native.Mathlib.Omega.{arith}
use lib.ListN.{length-set}
use Rattle.convert.proofs.Renumbering.{head_put}
use Rattle.convert.proofs.sheets.put_head.Goals as goal

pub bounds-out-1 : goal.bounds-out-1
bounds-out-1 c = simp length-set (omega arith)

pub bounds-out-2 : goal.bounds-out-2
bounds-out-2 c = simp length-set (omega arith)

pub write32-requires : goal.write32-requires
write32-requires c = simp length-set (omega arith)

pub write32-requires-2 : goal.write32-requires-2
write32-requires-2 c = omega (arith, simp length-set at c.write32.auto.b)

pub shape_of-out : goal.shape_of-out
shape_of-out c = omega (arith, simp length-set at c.write32.auto.b)

pub returns : goal.returns
returns c = head_put _ _ _ _ c.requires c.write32.ensures c.write32-2.ensures
