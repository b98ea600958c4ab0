-- `grid::Grid::is_far` meets its contract. Assumes nothing.
use Rattle.std.proofs.Common.{not, ap}
use Rattle.grid.proofs.Grid.is_far.Goals as goal

pub returns : goal.returns
returns c = ap not c.within.ensures
