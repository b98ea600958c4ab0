-- What the grid and the cells of the code stand for in the model, and which grids cells are worked out by. Assumes nothing.
use Rattle.std.specs.Prelude.{◌≡◌, ℕ, ◌+◌, ◌-◌, ◌<◌, ◌≤◌, false}
use Rattle.model.specs.Bytes.{Bytes}
use Rattle.model.specs.Network.{Node, nodes, max_metres, nodes_broken, coordinates_broken}
use Rattle.model.specs.Grid as model
use Rattle.model.specs.declared.Division.{Division}
use Rattle.grid.specs.declared.Grid.{Grid}
use Rattle.grid.specs.declared.Cell.{Cell}
use Rattle.grid.specs.declared.span.Axis.{Axis}
use Rattle.grid.specs.declared.span.Axis.TheVariants.{X, Y}

-- The radii are the constants of the code's grid.
abbrev pub grid_of : Grid → model.Grid
grid_of r = record { g = r.g; inner = model.inner_radius; outer = model.outer_radius; left = r.left; bottom = r.bottom; spread = r.spread }

-- The division that a grid is made by.
abbrev pub division_of : Grid → Division
division_of r = record { g = r.g }

abbrev pub model_cell : Cell → model.Cell
model_cell c = record { column = c.column; row = c.row }

-- The coordinate of a node in one direction, and where the grid begins in that direction.
abbrev pub along : Axis → Node → ℕ
along X v = v.x
along Y v = v.y

abbrev pub origin : Axis → Grid → ℕ
origin X r = r.left
origin Y r = r.bottom

-- The grid is the one over the nodes body b, under its own division, and no rule about the two is broken.
pub record Over (r : Grid) (b : Bytes) : Type 0 where
  pub made : grid_of r ≡ model.grid_over (division_of r) (nodes b)
  pub nodes_rule : nodes_broken b ≡ false
  pub coordinates : coordinates_broken b ≡ false
  pub grid_rule : model.grid_broken r.g ≡ false

-- The largest spread there can be.
abbrev pub max_spread : ℕ
max_spread = max_metres + max_metres

-- The coordinate x lies within the spread of the grid from `from` on, so that (x − from) × g fits 32 bits, and its cell is one of g.
pub record InSpan (r : Grid) (from x : ℕ) : Type 0 where
  pub least : from ≤ x
  pub most : x - from ≤ r.spread
  pub narrow : r.spread ≤ max_spread
  pub some : 0 < r.g
  pub few : r.g ≤ model.max_grid
