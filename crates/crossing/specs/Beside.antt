-- Squares of one cell, and squares that edges cross, by their coordinates. Assumes nothing.
use Rattle.std.specs.Prelude.{ℕ, ◌<◌, ◌≡◌, Bool}
use Rattle.std.specs.Bool.{xor}
use Rattle.model.specs.Bytes.{Bytes}
use Rattle.model.specs.Network.{Edge, node, node_count}
use Rattle.model.specs.Grid.{cell_at}
use Rattle.grid.specs.Stored.{Over}
use Rattle.grid.specs.Squares.{SquareOf, reaches_node}
use Rattle.grid.specs.declared.Grid.{Grid}
use Rattle.grid.specs.declared.square.Square.{Square}
use Rattle.crossing.specs.Ground.{cells_in}
use Rattle.crossing.specs.Cells.{same_cell}

-- s is the square of the one cell that node u lies in.
pub record CellSquare (nodes : Bytes) (grid : Grid) (u : ℕ) (s : Square) : Type 0 where
  pub over : Over grid nodes
  pub node_in : u < node_count nodes
  pub square : SquareOf grid (cell_at (cells_in grid nodes) u) 0 s

-- w says of node v whether it has the cell of u, for every node u whose square s is.
abbrev pub Beside : Bytes → Square → ℕ → Bool → Type 0
Beside nodes s v w = (grid : Grid) (u : ℕ) → CellSquare nodes grid u s → w ≡ same_cell (cells_in grid nodes) u v

-- The edge has one end inside the square and one outside.
unfoldable pub crosses_square : Bytes → Square → Edge → Bool
crosses_square nodes s e = xor (reaches_node s (node nodes e.first)) (reaches_node s (node nodes e.second))
