-- Distances, and the least total over all walks between two nodes, computed by rounds over all arcs (Bellman and Ford).
-- That `dist` is this least total is a theorem (`theory`, Exact), so a reader need not follow the rounds.
-- T-07: "d becomes that pair": the total of a walk is the key of its seconds and hops, and that a least key is the least pair is a theorem too (`theory`,
-- PairModel). Assumes nothing.
use Rattle.std.specs.Prelude.{ℕ, zero, suc, ◌+◌, min, Bool, false, List, [], ◌∷◌, get_or, set, replicate, eqb}
use Rattle.model.specs.Pair.{Pair, LeastPairOf, pair_of}
use Rattle.model.specs.Walk.{Arc, LeastOf}

-- No walk, or the key of a pair of seconds and hops.
pub data Distance : Type 0 where
  unreachable : Distance
  finite : ℕ → Distance

-- x is the least number with P, or unreachable where no number has P.
abbrev pub IsLeast : (ℕ → Type 0) → Distance → Type 0
IsLeast P (finite n) = LeastOf P n
IsLeast P unreachable = (n : ℕ) → P n → ⊥

-- x is the least pair with P, or unreachable where no pair has P.
abbrev pub IsLeastPair : (Pair → Type 0) → Distance → Type 0
IsLeastPair P (finite k) = LeastPairOf P (pair_of k)
IsLeastPair P unreachable = (p : Pair) → P p → ⊥

-- The lesser of two distances: fewer seconds, or as many and fewer hops.
unfoldable pub sooner : Distance → Distance → Distance
sooner unreachable y = y
sooner (finite m) unreachable = finite m
sooner (finite m) (finite n) = finite (min m n)

-- The least of f x over the elements x of a list.
unfoldable pub soonest : {A : Type 0} → (A → Distance) → List A → Distance
soonest f [] = unreachable
soonest f (x ∷ xs) = sooner (f x) (soonest f xs)

-- The sum of two distances, of their seconds and of their hops.
unfoldable pub plus : Distance → Distance → Distance
plus unreachable y = unreachable
plus (finite m) unreachable = unreachable
plus (finite m) (finite n) = finite (m + n)

-- Both are finite, and equal.
unfoldable pub agree : Distance → Distance → Bool
agree unreachable y = false
agree (finite m) unreachable = false
agree (finite m) (finite n) = eqb m n

-- ---- the least total over all walks

-- A distance and the cost c more.
unfoldable pub later : Distance → ℕ → Distance
later unreachable c = unreachable
later (finite m) c = finite (m + c)

-- The distance of a node, in a list with one for each node.
abbrev pub at : List Distance → ℕ → Distance
at ds v = get_or ds v unreachable

-- At the start, only u is reached.
unfoldable pub start : ℕ → ℕ → List Distance
start N u = set (replicate N unreachable) u (finite 0)

-- The end of an arc may be reached sooner by that arc.
unfoldable pub relax : Arc → List Distance → List Distance
relax a ds = set ds a.to (sooner (at ds a.to) (later (at ds a.from) a.cost))

-- One round: each arc once.
unfoldable pub round : List Arc → List Distance → List Distance
round [] ds = ds
round (a ∷ arcs) ds = round arcs (relax a ds)

unfoldable pub rounds : ℕ → List Arc → List Distance → List Distance
rounds zero arcs ds = ds
rounds (suc k) arcs ds = rounds k arcs (round arcs ds)

-- d(u, t) among N nodes: as many rounds as there are nodes.
unfoldable pub dist : List Arc → ℕ → ℕ → ℕ → Distance
unfolding start rounds
dist arcs N u t = at (rounds N arcs (start N u)) t
