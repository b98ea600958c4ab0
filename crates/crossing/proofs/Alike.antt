-- Cells of nodes compared, one node after another. Assumes nothing.
use Prim.Native.Nat.{ℕ, ◌+◌, ◌-◌, ◌≤◌, ◌<◌}
use native.Mathlib.Omega.{arith}
use mathlib.Core.Path.{◌≡◌, sym, ◌∙◌, subst}
use mathlib.Core.Bool.{Bool, true, false, not}
use mathlib.Core.List.{List}
use lib.Dec.{eqb, leb}
use Rattle.model.specs.Lists.{any}
use Rattle.model.specs.Bytes.{Bytes}
use Rattle.model.specs.Network.{node, node_count}
use Rattle.model.specs.Grid.{Cell, cell_at, cell_of, gap, within}
use Rattle.theory.specs.Tests.{same_test, leb-true, true-leb, eqb-true, true-eqb}
use Rattle.theory.specs.RangeLaws.{rest, rest_all, rest_step, rest_end}
use Rattle.grid.specs.Stored.{grid_of, Over}
use Rattle.grid.specs.Squares.{SquareOf, reaches_node}
use Rattle.grid.specs.declared.Grid.{Grid}
use Rattle.grid.specs.declared.square.Square.{Square}
use Rattle.grid.proofs.Reached.{has_within}
use Rattle.grid.proofs.Cells.{cell_at_law}
use Rattle.crossing.specs.Ground.{cells_in}
use Rattle.crossing.specs.Beside.{CellSquare, Beside}
use Rattle.crossing.specs.Cells.{same_cell, first_of_cell}

-- The cell that the grid works out for node i is the one in the list of cells.
pub cell_read : (grid : Grid) (b : Bytes) (i : ℕ) (c : Cell) → i < node_count b → c ≡ cell_of (grid_of grid) (node b i) → c ≡ cell_at (cells_in grid b) i
cell_read grid b i c h e = e ∙ sym (cell_at_law (grid_of grid) b i h)

-- A square of radius 0 is one cell.
same_index : (x y : ℕ) → leb (gap y x) 0 ≡ eqb x y
unfolding gap
same_index x y = same_test
    (λ e. let h : (y - x) + (x - y) ≤ 0 = leb-true e in true-eqb {m = x} {n = y} (omega arith))
    (λ e. let h : x ≡ y = eqb-true e in true-leb ((y - x) + (x - y)) 0 (omega arith))

pub cell_square_made : (grid : Grid) (b : Bytes) (u : ℕ) (c : Cell) (s : Square) → Over grid b → u < node_count b → c ≡ cell_of (grid_of grid) (node b u)
    → SquareOf grid c 0 s → CellSquare b grid u s
cell_square_made grid b u c s o h e q = record { over = o; node_in = h; square = subst (λ (x : Cell). SquareOf grid x 0 s) (cell_read grid b u c h e) q }

-- w is whether the square reaches over node v, as the code has read it.
pub beside_made : (b : Bytes) (s : Square) (v : ℕ) (w : Bool) → v < node_count b → w ≡ reaches_node s (node b v) → Beside b s v w
unfolding same_cell within
beside_made b s v w h e grid u q =
    let c = cell_at (cells_in grid b) u in
    e ∙ has_within q.over c 0 s q.square v h
    ∙ rw (← cell_at_law (grid_of grid) b v h, same_index c.column (cell_at (cells_in grid b) v).column, same_index c.row (cell_at (cells_in grid b) v).row)

-- ---- the nodes below u, from v on

module _ (cs : List Cell) (u : ℕ) where
  abbrev pub none_from : ℕ → Bool
  none_from v = not (any (same_cell cs u) (rest v u))

  pub none_first : first_of_cell cs u ≡ none_from 0
  unfolding first_of_cell
  none_first = rw (← rest_all u)

  module _ (v : ℕ) where
    pub none_found : v < u → same_cell cs u v ≡ true → none_from v ≡ false
    unfolding any
    none_found h e = rw (rest_step v u h, e)

    pub none_next : v < u → same_cell cs u v ≡ false → none_from v ≡ none_from (v + 1)
    unfolding any
    none_next h e = rw (rest_step v u h, e)

    pub none_last : u ≤ v → none_from v ≡ true
    unfolding any
    none_last h = rw (rest_end v u h)
