-- `grid::Grid::within` meets its contract. Assumes nothing.
use Rattle.std.proofs.Common.{arith}
use Rattle.std.proofs.lemmas.Bool.Decides.{nat_tests}
use Rattle.model.specs.Grid.{gap, within}
use Rattle.grid.proofs.Grid.within.Goals as goal

pub returns-then-abs_diff-r : goal.returns-then-abs_diff-r
unfolding within gap
returns-then-abs_diff-r c = grind (arith, nat_tests)

pub returns-else-abs_diff-r : goal.returns-else-abs_diff-r
unfolding within gap
returns-else-abs_diff-r c = grind (arith, nat_tests)
