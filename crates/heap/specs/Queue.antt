-- The queue of a search: the positions below k are a binary heap of the nodes that are reached and not settled; those from k up to e have the nodes that are
-- not reached; those from e on the settled nodes. Assumes nothing.
use Rattle.std.specs.Prelude.{ℕ, ◌+◌, ◌-◌, ◌≤◌, ◌<◌, min, ◌≡◌, List, get_or, set}
use Rattle.model.specs.Oracle.{no_walk}
use Rattle.words.specs.Regions.{times_in}
use Rattle.words.specs.Times.{time, store}
use Rattle.heap.specs.Words.{Positioned, node, position, key, swapped}
use Rattle.heap.specs.Order.{Ordered}
use Rattle.heap.specs.Levels.{Up, Down, Few}

pub record Queue (n k e : ℕ) (w : List ℕ) : Type 0 where
  pub positioned : Positioned n w
  pub order : Ordered k (key n w)
  pub held : k ≤ e
  pub room : e ≤ n
  pub reached : (v : ℕ) → v < n → position n w v < k → time n w v < no_walk
  pub unreached : (v : ℕ) → v < n → k ≤ position n w v → position n w v < e → no_walk ≤ time n w v

-- The times become d, the settled nodes stay at their positions, and r nodes are held.
pub record Went (n e : ℕ) (d : List ℕ) (w w' : List ℕ) (r : ℕ) : Type 0 where
  pub queue : Queue n r e w'
  pub times : times_in n w' ≡ d
  pub beyond : (m : ℕ) → e ≤ m → m < n → node n w' m ≡ node n w m

-- The node v, not reached before, is reached in the time x and enters: it comes to position k, and rises. Left open: which of equally near nodes it rises past.
pub record Entered (n k e v x : ℕ) (w w' : List ℕ) : Type 0 where
  pub went : Went n e (set (times_in n w) v x) w w' (k + 1)
  pub levels : Few n Up k (swapped n k (position n w v) (store n v x w)) w'

-- The node v, held already, is reached in the time x, which is less: it rises from where it stands.
pub record Lowered (n k e v x : ℕ) (w w' : List ℕ) : Type 0 where
  pub went : Went n e (set (times_in n w) v x) w w' k
  pub levels : Few n Up (position n w v) (store n v x w) w'

-- The times, with that of v lowered to x where x is less.
abbrev pub lowered : List ℕ → ℕ → ℕ → List ℕ
lowered d v x = set d v (min (get_or d v 0) x)

-- The node u is taken out and settled, at position e - 1: of the nodes that are not settled none is nearer. The last of the heap comes to its front, and sinks.
-- Left open: which of equally near nodes u is.
pub record Taken (n k e : ℕ) (w w' : List ℕ) (u : ℕ) : Type 0 where
  pub queue : Queue n (k - 1) (e - 1) w'
  pub times : times_in n w' ≡ times_in n w
  pub beyond : (m : ℕ) → e ≤ m → m < n → node n w' m ≡ node n w m
  pub last : node n w' (e - 1) ≡ u
  pub inside : u < n
  pub held : position n w u < k
  pub near : time n w u < no_walk
  pub nearest : (v : ℕ) → v < n → position n w v < e → time n w u ≤ time n w v
  pub levels : Few n Down 0 (swapped n (k - 1) (e - 1) (swapped n 0 (k - 1) w)) w'
