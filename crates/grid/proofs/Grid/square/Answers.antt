-- `grid::Grid::square` meets its contract.
use Rattle.std.proofs.Common.{arith}
use Rattle.grid.proofs.Grid.square.Goals as goal

pub overflow_add-result : goal.overflow_add-result
overflow_add-result c = omega arith

pub overflow_sub-result : goal.overflow_sub-result
overflow_sub-result c = omega arith

pub overflow_add-result-2 : goal.overflow_add-result-2
overflow_add-result-2 c = omega arith

pub overflow_sub-result-2 : goal.overflow_sub-result-2
overflow_sub-result-2 c = omega arith

pub returns : goal.returns
returns c = record { left = rw c.reach-across.ensures.0; width = rw (c.reach-across.ensures.0, c.reach-across.ensures.1); bottom = rw c.reach-up.ensures.0; height = rw (c.reach-up.ensures.0, c.reach-up.ensures.1) }
