-- The marks, found by one pass over the settle order from the farthest node to the nearest. Assumes nothing.
use Rattle.std.specs.Prelude.{ℕ, ◌+◌, ◌<◌, ◌≡◌, ◌↔◌, length, replicate}
use Rattle.std.proofs.Common.{arith}
use mathlib.Core.List.Memᴰ
use mathlib.Core.List.{List, [], Memᴰ}
use Rattle.std.proofs.lemmas.List.{length-replicate}
use Rattle.model.specs.Walk.{Arc, Mem}
use Rattle.algorithms.specs.Dijkstra.{at}
use Rattle.algorithms.specs.Settle.{blank}
use Rattle.algorithms.specs.Marks.{Marked, marked_reached}

-- Why `v` is to be marked, by the marks so far: it is wanted itself, or an arc leads from it, tight, to a marked node.
pub data Reason (arcs : List Arc) (D : ℕ → ℕ) (Q : ℕ → Type 0) (m : List ℕ) (v : ℕ) : Type 0 where
  wanted : Q v → Reason arcs D Q m v
  onward : (a : Arc) → Mem a arcs → a.from ≡ v → D a.to ≡ D v + a.cost → 0 < at m a.to → Reason arcs D Q m v

-- The order is of the words d, and its nodes are the reached ones.
module _ (arcs : List Arc) (d : List ℕ) (Q : ℕ → Type 0) (order : List ℕ) where
  abbrev R : ℕ → Type 0
  R v = Memᴰ v order

  abbrev pub Is : ℕ → Type 0
  Is v = Marked arcs (λ v. Memᴰ v order) (at d) Q v

  -- The marks are right, and full but for the nodes of `rest`, which are still to come.
  pub record Upto (N : ℕ) (rest m : List ℕ) : Type 0 where
    pub words : length m ≡ N
    pub real : (v : ℕ) → 0 < at m v → Is v
    pub full : (v : ℕ) → (Memᴰ v rest → ⊥) → Is v → 0 < at m v

  pub upto_start : (N : ℕ) → Upto N order (replicate N 0)
  upto_start N = record { words = length-replicate N 0; real = λ v h. absurd (omega (arith, blank N v)); full = λ v n k. absurd (n (marked_reached k)) }

  pub upto_end : {N : ℕ} {m : List ℕ} → Upto N [] m → (v : ℕ) → (0 < at m v) ↔ Is v
  upto_end u v = (u.real v, u.full v (λ i. Memᴰ.not-nil i))
