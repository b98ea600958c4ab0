-- What one level, and all levels, leave in the words. Assumes nothing.
use Rattle.std.specs.Prelude.{ℕ, ◌≤◌, ◌<◌, ◌≡◌, ◌≢◌, List}
use Rattle.words.specs.Regions.{times_in}
use Rattle.heap.specs.Words.{Positioned, node, key, swapped}
use Rattle.heap.specs.Order.{Ordered}
use Rattle.heap.specs.Levels.{Few}

-- The nodes of the first k positions may have changed their positions, and nothing else.
pub record Rearranged (n k : ℕ) (w w' : List ℕ) : Type 0 where
  pub positioned : Positioned n w'
  pub times : times_in n w' ≡ times_in n w
  pub beyond : (m : ℕ) → k ≤ m → m < n → node n w' m ≡ node n w m

-- One level on from i, upwards or downwards: it leads to r, which is i where the node belongs there. Partly is what holds of the keys as long as it may go on.
pub record Level (n k : ℕ) (On : ℕ → ℕ → Type 0) (Partly : ℕ → ℕ → (ℕ → ℕ) → Type 0) (i : ℕ) (w w' : List ℕ) (r : ℕ) : Type 0 where
  pub kept : Rearranged n k w w'
  pub order : Partly k r (key n w')
  pub done : r ≡ i → Ordered k (key n w') × (w' ≡ w)
  pub moved : r ≢ i → On i r × (r < k) × (w' ≡ swapped n i r w)

-- The node at position i has gone to where it belongs among the first k, in at most 12 levels.
pub record Sifted (n k : ℕ) (On : ℕ → ℕ → Type 0) (i : ℕ) (w w' : List ℕ) : Type 0 where
  pub kept : Rearranged n k w w'
  pub order : Ordered k (key n w')
  pub levels : Few n On i w w'
