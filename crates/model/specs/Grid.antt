-- The grid: cells, squares about a cell, and which pairs are far. Assumes nothing.
use Rattle.std.specs.Prelude.{ℕ, ◌+◌, ◌-◌, ◌*◌, ◌/◌, max, Bool, ◌&&◌, ◌||◌, cond, List, map, get_or, leb, ltb}
use Rattle.model.specs.Lists.{least, greatest}
use Rattle.model.specs.Bytes.{Bytes, word16, bytes16}
use Rattle.model.specs.Network.{Node}
use Rattle.model.specs.declared.Division.{Division}
use Rattle.model.specs.declared.Kind.{Kind}
use Rattle.model.specs.declared.Kind.TheVariants.{Far, Local}

-- The radii of the squares: "inner is the square of 5 × 5 cells about C and outer is 9 × 9". "The two radii, 2 and 4, belong to the grid and are
-- written nowhere else."
abbrev pub inner_radius : ℕ
inner_radius = 2

abbrev pub outer_radius : ℕ
outer_radius = 4

-- A grid of g × g cells: its radii, its origin, which is the least x and the least y, and "s .. the larger of the spread in x and the spread in y".
pub record Grid : Type 0 where
  pub g : ℕ
  pub inner : ℕ
  pub outer : ℕ
  pub left : ℕ
  pub bottom : ℕ
  pub spread : ℕ

unfoldable pub grid_over : Division → List Node → Grid
grid_over dv nodes =
    let xs = map (λ v. v.x) nodes in
    let ys = map (λ v. v.y) nodes in
    record {
      g = dv.g;
      inner = inner_radius;
      outer = outer_radius;
      left = least xs;
      bottom = least ys;
      spread = max (greatest xs - least xs) (greatest ys - least ys);
    }

pub record Cell : Type 0 where
  pub column : ℕ
  pub row : ℕ

-- "Column = (x − least x) × g divided by (s + 1), rounded down; row likewise with y."
unfoldable pub cell_index : Grid → ℕ → ℕ → ℕ
cell_index grid origin x = ((x - origin) * grid.g) / (grid.spread + 1)

unfoldable pub cell_of : Grid → Node → Cell
cell_of grid v = record { column = cell_index grid grid.left v.x; row = cell_index grid grid.bottom v.y }

-- The cell of each node.
unfoldable pub cells : Grid → List Node → List Cell
cells grid nodes = map (cell_of grid) nodes

unfoldable pub cell_at : List Cell → ℕ → Cell
cell_at cs u = get_or cs u (record { column = 0; row = 0 })

unfoldable pub gap : ℕ → ℕ → ℕ
gap a b = (a - b) + (b - a)

-- The cell e is in the square of radius r about the cell c, which is cut off at the grid's edge because no cell lies beyond it.
unfoldable pub within : ℕ → Cell → Cell → Bool
within r c e = leb (gap e.column c.column) r && leb (gap e.row c.row) r

-- "Two places are far when their columns or their rows differ by 5 or more", which is by more than the outer radius, "else local".
unfoldable pub kind_of : Grid → Cell → Cell → Kind
kind_of grid c e = cond (within grid.outer c e) Local Far

-- Rule 8, of the number passed in: "g .. outside 1 to 64". (`grid_body_broken` is rule 8 of an oracle's body.)
abbrev pub max_grid : ℕ
max_grid = 64

unfoldable pub grid_broken : ℕ → Bool
grid_broken g = ltb g 1 || ltb max_grid g

-- Body 4, "g, 16 bits": as it is written, and read.
abbrev pub division_size : ℕ
division_size = 2

unfoldable pub division_bytes : Division → Bytes
division_bytes dv = bytes16 dv.g

unfoldable pub division : Bytes → Division
division b = record { g = word16 b 0 }
