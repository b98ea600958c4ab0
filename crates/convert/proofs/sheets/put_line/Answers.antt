-- `sheets::put_line` meets its contract. Assumes nothing.
use native.Mathlib.Omega.{arith}
use lib.ListN.{length-set}
use Rattle.convert.proofs.Renumbering.{line_put}
use Rattle.convert.proofs.sheets.put_line.Goals as goal

pub write16-requires : goal.write16-requires
write16-requires c = simp length-set (omega arith)

pub write32-requires : goal.write32-requires
write32-requires c = omega (arith, simp length-set at c.write16.auto.b)

pub shape_of-out : goal.shape_of-out
shape_of-out c = omega (arith, simp length-set at c.write16.auto.b)

pub returns : goal.returns
returns c = line_put _ _ _ _ _ _ _ c.requires c.write16.ensures c.write32.ensures
