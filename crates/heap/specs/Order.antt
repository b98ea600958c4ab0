-- A binary heap by its keys: below position i stand 2i + 1 and 2i + 2. Assumes nothing.
use Rattle.std.specs.Prelude.{ℕ, ◌+◌, ◌≤◌, ◌<◌, ◌≢◌}

-- j stands directly below i.
abbrev pub Below : ℕ → ℕ → Type 0
Below i j = (i + i < j) × (j ≤ i + i + 2)

-- Among the first k no key is less than the one that it stands below.
abbrev pub Ordered : ℕ → (ℕ → ℕ) → Type 0
Ordered k key = (i j : ℕ) → Below i j → j < k → key i ≤ key j

-- The same, but at i upwards; and what stands below i is no less than what i stands below.
pub record OrderedUp (k i : ℕ) (key : ℕ → ℕ) : Type 0 where
  pub rest : (a b : ℕ) → Below a b → b < k → b ≢ i → key a ≤ key b
  pub over : (a b : ℕ) → Below a i → Below i b → b < k → key a ≤ key b

-- The same, but at i downwards.
pub record OrderedDown (k i : ℕ) (key : ℕ → ℕ) : Type 0 where
  pub rest : (a b : ℕ) → Below a b → b < k → a ≢ i → key a ≤ key b
  pub over : (a b : ℕ) → Below a i → Below i b → b < k → key a ≤ key b

-- c stands below i, and of those below i none of the first k has a lesser key.
pub record Lesser (k : ℕ) (key : ℕ → ℕ) (i c : ℕ) : Type 0 where
  pub below : Below i c
  pub inside : c < k
  pub least : (b : ℕ) → Below i b → b < k → key c ≤ key b
