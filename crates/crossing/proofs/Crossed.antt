-- Edges that cross a square, by its coordinates and by its cells. Assumes nothing.
use Prim.Native.Nat.{ℕ, ◌<◌}
use mathlib.Core.Path.{◌≡◌, refl, ◌∙◌}
use mathlib.Core.Bool.{Bool, true, false, not, beq, xor}
use Rattle.model.specs.Bytes.{Bytes}
use Rattle.model.specs.Network.{Edge, node, node_count}
use Rattle.model.specs.Grid.{Cell}
use Rattle.model.specs.Access.{crosses}
use Rattle.grid.specs.Stored.{grid_of, Over}
use Rattle.grid.specs.Squares.{SquareOf, reaches_node}
use Rattle.grid.specs.declared.Grid.{Grid}
use Rattle.grid.specs.declared.square.Square.{Square}
use Rattle.grid.proofs.Cells.{cell_at_law}
use Rattle.grid.proofs.Reached.{has_within}
use Rattle.crossing.specs.Ground.{cells_in}
use Rattle.crossing.specs.Beside.{crosses_square}

differs : (a b : Bool) → not (beq a b) ≡ xor a b
unfolding xor
differs true true = refl
differs true false = refl
differs false true = refl
differs false false = refl

-- a and b say whether the square reaches over the ends u and v, as the code has read them.
pub crosses_read : (nodes : Bytes) (s : Square) (e : Edge) (u v : ℕ) (a b : Bool) → u ≡ e.first → v ≡ e.second → a ≡ reaches_node s (node nodes u)
    → b ≡ reaches_node s (node nodes v) → not (beq a b) ≡ crosses_square nodes s e
unfolding crosses_square
crosses_read nodes s e u v a b p q h k = differs a b ∙ rw (h, k, p, q)

-- An edge crosses the square by its coordinates exactly where it does so by its cells.
pub crosses_same : {nodes : Bytes} {grid : Grid} → Over grid nodes → (r : ℕ) (c : Cell) (s : Square) → SquareOf grid c r s → (e : Edge)
    → e.first < node_count nodes
    → e.second < node_count nodes → crosses_square nodes s e ≡ crosses (cells_in grid nodes) r c e
unfolding crosses_square crosses
crosses_same {nodes} {grid} over r c s q e h k =
    rw (
      has_within over c r s q e.first h,
      has_within over c r s q e.second k,
      cell_at_law (grid_of grid) nodes e.first h,
      cell_at_law (grid_of grid) nodes
          e.second k,
    )
