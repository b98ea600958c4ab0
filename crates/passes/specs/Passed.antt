-- The first pass over the cells: what region TRANSIT and region COUNTS hold when the nodes below u are passed. Assumes nothing.
use Rattle.std.specs.Prelude.{ℕ, ◌<◌, ◌≡◌, length}
use mathlib.Core.List.{List, Memᴰ}
use Rattle.model.specs.Bytes.{Bytes}
use Rattle.grid.specs.declared.Grid.{Grid}
use Rattle.crossing.specs.Ground.{cells_in}
use Rattle.words.specs.Regions.{transit, count_of}
use Rattle.passes.specs.Building.{access_of, members_in}
use Rattle.passes.specs.Covered.{Seen}

module _ (b e : Bytes) (grid : Grid) (n : ℕ) where
  -- a is an access node of the cell of some node.
  pub record Needed (a : ℕ) : Type 0 where
    pub by : ℕ
    pub below : by < n
    pub listed : Memᴰ a (access_of b e grid by)

  -- v is seen to: its count is the number of its access nodes, and these are in region TRANSIT.
  pub record Told (w : List ℕ) (v : ℕ) : Type 0 where
    pub counted : count_of n w v ≡ length (access_of b e grid v)
    pub members : (a : ℕ) → Memᴰ a (access_of b e grid v) → Memᴰ a (members_in n transit w)

  pub record CellsPassed (u : ℕ) (w : List ℕ) : Type 0 where
    pub sound : (a : ℕ) → Memᴰ a (members_in n transit w) → Needed a
    pub seen : Seen (cells_in grid b) (Told w) n u
