-- The order in which Dijkstra's method settles the nodes. Assumes nothing.
use Rattle.std.specs.Prelude.{ℕ, zero, suc, ◌≤◌, ◌<◌, ◌≡◌, length, set, replicate}
use Rattle.std.proofs.Math.Decide.{ℕ_discrete}
use Rattle.std.proofs.Common.{arith, get_or-set_same, get_or-set_other}
use mathlib.Core.List.Memᴰ
use mathlib.Core.List.{List, [], ◌∷◌, Memᴰ}
use Rattle.model.specs.Oracle.{no_walk}
use Rattle.algorithms.specs.Dijkstra.{at}

-- The words of the nodes fall along the list: the farthest comes first, and of equally far ones either may.
unfoldable pub Falling : List ℕ → List ℕ → Type 0
Falling d [] = Unit {0}
Falling d (v ∷ order) = ((x : ℕ) → Memᴰ x order → at d x ≤ at d v) × Falling d order

-- `order` holds the settled nodes, the farthest first.
pub record Kept (N : ℕ) (d done order : List ℕ) : Type 0 where
  pub settled : (v : ℕ) → Memᴰ v order → (v < N) × (0 < at done v) × (at d v < no_walk)
  pub every : (v : ℕ) → v < N → 0 < at done v → Memᴰ v order
  pub falls : Falling d order

pub blank : (n v : ℕ) → at (replicate n 0) v ≤ 0
blank zero v = omega arith
blank (suc n) zero = omega arith
blank (suc n) (suc v) = blank n v

pub kept_start : (N : ℕ) (d : List ℕ) → Kept N d (replicate N 0) []
unfolding Falling
kept_start N d = record { settled = λ v m. absurd (Memᴰ.not-nil m); every = λ v i h. absurd (omega (arith, blank N v)); falls = tt }

-- A flag that is set stays, and the one that is set now.
pub flag_here : (done : List ℕ) (u v : ℕ) → u < length done → v ≡ u → 0 < at (set done u 1) v
flag_here done u v i e = rw (e, get_or-set_same done u 1 0 i) (omega arith)

pub flag_stays : (done : List ℕ) (u v : ℕ) → u < length done → 0 < at done v → 0 < at (set done u 1) v
flag_stays done u v i h = pick (ℕ_discrete v u)
  where
    pick : Dec (v ≡ u) → 0 < at (set done u 1) v
    pick (yes e) = flag_here done u v i e
    pick (no n) = rw (get_or-set_other done u v 1 0 n) h
