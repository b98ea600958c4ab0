-- Arcs, walks, and least totals of walks. Assumes nothing.
use Rattle.std.specs.Prelude.{ℕ, suc, ◌+◌, ◌≤◌, ◌<◌, ◌≡◌, ◌⊎◌}
use mathlib.Core.List.{List, [], ◌∷◌, Memᴰ}
use Rattle.model.specs.Pair.{Pair, LeastPairOf}

-- One direction of an open edge.
pub record Arc : Type 0 where
  pub from : ℕ
  pub to : ℕ
  pub cost : ℕ

-- `a` is one of `arcs`.
abbrev pub Mem : Arc → List Arc → Type 0
Mem a arcs = Memᴰ a arcs

-- `Walk arcs u t n`: a walk from u to t whose total is n. "A walk from u to t starts at u and takes open roads one after another, each from the place
-- reached to that road's other end, and ends at t. .. u alone, with no road, is a walk from u to u. A walk's total is the sum of its roads' seconds."
pub data Walk (arcs : List Arc) : ℕ → ℕ → ℕ → Type 0 where
  stay : {u : ℕ} → Walk arcs u u 0
  go : {t n : ℕ} (a : Arc) → Mem a arcs → Walk arcs a.to t n → Walk arcs a.from t (a.cost + n)

-- n is the least number with P.
pub record LeastOf (P : ℕ → Type 0) (n : ℕ) : Type 0 where
  pub has : P n
  pub least : (m : ℕ) → P m → n ≤ m

-- n is the least total over all walks from u to t. "A least walk has that total."
abbrev pub Least : List Arc → ℕ → ℕ → ℕ → Type 0
Least arcs u t n = LeastOf (Walk arcs u t) n

-- ---- T-07: "Walks are compared by seconds, then by fewer roads"; here the cost of an arc is its seconds

-- The number of arcs of a walk.
unfoldable pub hops : {arcs : List Arc} {u t n : ℕ} → Walk arcs u t n → ℕ
hops stay = 0
hops (go a m w) = suc (hops w)

-- Some walk from u to t has the pair p.
pub record PairWalk (arcs : List Arc) (u t : ℕ) (p : Pair) : Type 0 where
  pub walk : Walk arcs u t p.seconds
  pub its_hops : hops walk ≡ p.hops

-- p is the least pair over all walks from u to t, however many arcs they have. "Least now means least pair."
abbrev pub LeastPair : List Arc → ℕ → ℕ → Pair → Type 0
LeastPair arcs u t p = LeastPairOf (PairWalk arcs u t) p

-- ---- "Ways and least walks are compared as lists of places"

-- The nodes of a walk after its first, and all of them.
unfoldable pub nodes_after : {arcs : List Arc} {u t n : ℕ} → Walk arcs u t n → List ℕ
nodes_after stay = []
nodes_after (go a m w) = a.to ∷ nodes_after w

unfoldable pub nodes_of : {arcs : List Arc} {u t n : ℕ} → Walk arcs u t n → List ℕ
nodes_of {u = u} w = u ∷ nodes_after w

-- "Of two different ones, that with the smaller number in the first position where they differ comes first by place numbers." A list comes before
-- those that go on after it.
unfoldable pub Before : List ℕ → List ℕ → Type 0
Before l [] = ⊥
Before [] (y ∷ ys) = Unit {0}
Before (x ∷ xs) (y ∷ ys) = (x < y) ⊎ ((x ≡ y) × Before xs ys)
