-- How far a node goes in the heap: "no entering, lowering or taking out passes more than 12 levels" (T-02). Assumes nothing.
use Rattle.std.specs.Prelude.{ℕ, zero, suc, ◌+◌, ◌-◌, ◌<◌, ◌≤◌, List}
use Rattle.heap.specs.Words.{swapped}
use Rattle.heap.specs.Order.{Below}

-- The levels that a node may pass. 4,096 positions stand on the levels 0 to 12.
abbrev pub max_levels : ℕ
max_levels = 12

-- One level on, from position i to j: upwards, or downwards.
abbrev pub Up : ℕ → ℕ → Type 0
Up i j = Below j i

abbrev pub Down : ℕ → ℕ → Type 0
Down i j = Below i j

-- A level up halves the position, and a level down doubles it: where a node may stand among the first k after so many levels.
unfoldable pub doubled : ℕ → ℕ
doubled zero = 1
doubled (suc n) = doubled n + doubled n

abbrev pub Rises : ℕ → ℕ → ℕ → Type 0
Rises k level i = (i < k) × (i < doubled (max_levels - level))

abbrev pub Sinks : ℕ → ℕ → ℕ → Type 0
Sinks k level i = (i ≤ k) × (doubled level ≤ i + 1)

-- From the words w, the node at position i passes so many levels, and then stands at j, in words w': at each level it changes positions with the node one
-- level on,
-- and nothing else is written.
pub data Passes (n : ℕ) (On : ℕ → ℕ → Type 0) (i : ℕ) (w : List ℕ) : ℕ → ℕ → List ℕ → Type 0 where
  stays : Passes n On i w 0 i w
  passes : {levels j : ℕ} {w' : List ℕ} → Passes n On i w levels j w' → (m : ℕ) → On j m → Passes n On i w (suc levels) m (swapped n j m w')

-- From w to w' the node at position i passes at most 12 levels.
pub record Few (n : ℕ) (On : ℕ → ℕ → Type 0) (i : ℕ) (w w' : List ℕ) : Type 0 where
  pub levels : ℕ
  pub last : ℕ
  pub few : levels ≤ max_levels
  pub passed : Passes n On i w levels last w'
