-- The rounds of a search: what holds between them, and what is found when no reached node is left. Assumes nothing.
use Rattle.std.specs.Prelude.{ℕ, zero, suc, ◌+◌, ◌<◌, ◌≡◌, refl, set, replicate}
use Rattle.std.proofs.Common.{not-suc-le-zero, arith, ap}
use mathlib.Core.List.{List, [], ◌∷◌, map, Memᴰ}
use Rattle.std.proofs.Math.ListN.{length}
use Rattle.model.specs.Lists.{up_to}
use Rattle.model.specs.Walk.{Arc}
use Rattle.model.specs.Distance.{dist}
use Rattle.model.specs.Oracle.{no_walk, coded}
use Rattle.algorithms.specs.Dijkstra.{at, Inv}
use Rattle.algorithms.specs.Settle.{Falling, Kept}

-- The words of the distances from s to each of N nodes.
unfoldable pub distance_words : List Arc → ℕ → ℕ → List ℕ
distance_words arcs N s = map (λ v. coded (dist arcs N s v)) (up_to N)

-- What a search from s has found: the distances, and in `order` the nodes with a walk from s, the farthest first.
pub record Found (arcs : List Arc) (N s : ℕ) (d order : List ℕ) : Type 0 where
  pub times : d ≡ distance_words arcs N s
  pub reached : (v : ℕ) → Memᴰ v order → (v < N) × (at d v < no_walk)
  pub every : (v : ℕ) → v < N → at d v < no_walk → Memᴰ v order
  pub falls : Falling d order

-- ---- how many nodes are not settled
unfoldable pub zeros : List ℕ → ℕ
zeros [] = 0
zeros (zero ∷ xs) = suc (zeros xs)
zeros (suc x ∷ xs) = zeros xs

pub zeros_set : (xs : List ℕ) (u : ℕ) → u < length xs → at xs u ≡ 0 → suc (zeros (set xs u 1)) ≡ zeros xs
unfolding zeros
zeros_set [] u h e = absurd (not-suc-le-zero h)
zeros_set (zero ∷ xs) zero h e = refl
zeros_set (suc x ∷ xs) zero h e = absurd (omega arith)
zeros_set (zero ∷ xs) (suc u) h e = ap suc (zeros_set xs u (omega arith) e)
zeros_set (suc x ∷ xs) (suc u) h e = zeros_set xs u (omega arith) e

pub zeros_all : (n : ℕ) → zeros (replicate n 0) ≡ n
unfolding zeros
zeros_all zero = refl
zeros_all (suc n) = ap suc (zeros_all n)

-- ---- between the rounds
pub record State (arcs : List Arc) (N s : ℕ) (d done order : List ℕ) : Type 0 where
  pub inv : Inv arcs N s d done
  pub kept : Kept N d done order
  pub filled : length order + zeros done ≡ N
