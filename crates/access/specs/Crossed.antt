-- The crossing nodes of a square, put into a region one edge after another. Assumes nothing.
use Rattle.std.specs.Prelude.{ℕ, ◌≡◌, true, List, ◌⊎◌}
use Rattle.model.specs.Bytes.{Bytes}
use Rattle.model.specs.Network.{edge}
use Rattle.model.specs.Grid.{Cell}
use Rattle.model.specs.Access.{crossing_end, crossings}
use Rattle.grid.specs.Squares.{SquareOf}
use Rattle.grid.specs.declared.Grid.{Grid}
use Rattle.grid.specs.declared.square.Square.{Square}
use Rattle.index.specs.Index.{Incident}
use Rattle.crossing.specs.Sets.{member_flags}
use Rattle.crossing.specs.Ground.{cells_in, edges_in, Ground}
use Rattle.crossing.specs.Beside.{crosses_square}
use Rattle.marks.specs.Due.{Flagged}
use Rattle.words.specs.Regions.{region_flags}
use Rattle.words.specs.Frames.{Only}

-- Node x is the crossing node of an edge that crosses the square: of edge j, at node u.
pub record CrossingOf (nodes edges : Bytes) (s : Square) (x : ℕ) : Type 0 where
  pub u : ℕ
  pub j : ℕ
  pub real : Incident edges u j
  pub crosses : crosses_square nodes s (edge edges j) ≡ true
  pub end : x ≡ crossing_end (edge edges j)

-- The flags are those of the crossing nodes of the square s, for every grid, cell and radius whose square it is.
abbrev pub CrossingsOf : Bytes → Bytes → Square → ℕ → List ℕ → Type 0
CrossingsOf nodes edges s n set =
    (grid : Grid) (c : Cell) (r : ℕ) → Ground nodes edges grid → SquareOf grid c r s
    → set ≡ member_flags n (crossings (cells_in grid nodes) (edges_in edges) r c)

-- From w to w', the crossing nodes of the edges `of` are put into region k: it has them, what it had, and no other but crossing nodes of the square.
pub record Put (nodes edges : Bytes) (s : Square) (of : ℕ → Type 0) (n k : ℕ) (w w' : List ℕ) : Type 0 where
  pub others : Only n k w w'
  pub stays : (x : ℕ) → Flagged (region_flags n k w) x → Flagged (region_flags n k w') x
  pub real : (x : ℕ) → Flagged (region_flags n k w') x → Flagged (region_flags n k w) x ⊎ CrossingOf nodes edges s x
  pub full : (j : ℕ) → of j → crosses_square nodes s (edge edges j) ≡ true → Flagged (region_flags n k w') (crossing_end (edge edges j))
