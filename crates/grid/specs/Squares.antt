-- Squares of cells as the coordinates that they reach over. Assumes nothing.
use Rattle.std.specs.Prelude.{◌≡◌, ℕ, ◌+◌, ◌-◌, ◌*◌, ◌/◌, ◌%◌, ◌<◌, ◌≤◌, min, Bool, ◌&&◌, nat_lt}
use Rattle.model.specs.Network.{Node}
use Rattle.model.specs.Grid as model
use Rattle.grid.specs.Stored.{max_spread}
use Rattle.grid.specs.declared.Grid.{Grid}
use Rattle.grid.specs.declared.square.Square.{Square}

-- The coordinate x is one of the `size` coordinates from `low` on, in 32 bits.
unfoldable pub reaches : ℕ → ℕ → ℕ → Bool
reaches low size x = nat_lt ((x + (4_294_967_296 - low)) % 4_294_967_296) size

unfoldable pub reaches_node : Square → Node → Bool
reaches_node s v = reaches s.left s.width v.x && reaches s.bottom s.height v.y

-- How far from its origin the cells with index k begin: the least distance d with d × g / (spread + 1) ≥ k. No index is g or more, so a larger k is cut off.
unfoldable pub start_of : Grid → ℕ → ℕ
start_of r k = (min k r.g * (r.spread + 1) + (r.g - 1)) / r.g

-- The bounds that acceptance gives: all that follows fits 32 bits.
pub record Bounded (r : Grid) : Type 0 where
  pub some : 0 < r.g
  pub few : r.g ≤ model.max_grid
  pub narrow : r.spread ≤ max_spread
  pub left : r.left ≤ max_spread
  pub bottom : r.bottom ≤ max_spread

-- s reaches over the square of radius k about the cell c.
pub record SquareOf (r : Grid) (c : model.Cell) (k : ℕ) (s : Square) : Type 0 where
  pub left : s.left ≡ r.left + start_of r (c.column - k)
  pub width : s.width ≡ start_of r (c.column + k + 1) - start_of r (c.column - k)
  pub bottom : s.bottom ≡ r.bottom + start_of r (c.row - k)
  pub height : s.height ≡ start_of r (c.row + k + 1) - start_of r (c.row - k)
