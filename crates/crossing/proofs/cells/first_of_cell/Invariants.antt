-- `cells::first_of_cell` meets its contract: the answer is that for the nodes from v on.
use mathlib.Core.Path.{◌≡◌}
use Rattle.crossing.specs.Cells.{first_of_cell}
use Rattle.crossing.specs.Beside.{CellSquare}
use Rattle.grid.specs.declared.Grid.{Grid}
use Rattle.crossing.specs.Ground.{cells_in}
use Rattle.crossing.proofs.Alike.{none_from}
use Rattle.crossing.proofs.cells.first_of_cell.Given as goal

abbrev pub invariant-loop-v : goal.invariant-loop-v
invariant-loop-v l = (grid : Grid) → CellSquare l.nodes grid l.u l.square
    → first_of_cell (cells_in grid l.nodes) l.u ≡ none_from (cells_in grid l.nodes) l.u l.v
