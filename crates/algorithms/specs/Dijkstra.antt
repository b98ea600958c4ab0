-- Dijkstra's method (document 002, 2.1) on a list of words and a list of flags: what holds between its steps, and that each step keeps it.
-- Any way to find a nearest node serves. Assumes nothing.
use Rattle.std.specs.Prelude.{ℕ, zero, suc, ◌+◌, ◌≤◌, ◌<◌, min, ◌≡◌, ◌⊎◌, List, [], ◌∷◌, ◌++◌, length, get_or, set, replicate}
use Rattle.std.proofs.Common.{add_assoc, zero-add, arith, inl, inr, length-set, get_or-set_same, get_or-set_other}
use Rattle.std.proofs.Math.Decide.{dec_le, ℕ_discrete}
use Rattle.std.proofs.Math.Path.{refl}
use Rattle.std.proofs.Math.Logic.{⊎_elim}
use Rattle.std.proofs.lemmas.List.{length-replicate, get_or-replicate}
use Rattle.std.proofs.Math.Seq.{set_out}
use Rattle.model.specs.Walk.{Arc, Mem, Walk, stay, go, Least}
use Rattle.model.specs.Oracle.{no_walk}
use Rattle.theory.specs.Walks.{Within}

-- The word of a node.
abbrev pub at : List ℕ → ℕ → ℕ
at d v = get_or d v 0

-- The words, with the end of `a` reached within `c` and the cost of the arc.
unfoldable pub relax : ℕ → Arc → List ℕ → List ℕ
relax c a d = set d a.to (min (at d a.to) (c + a.cost))

unfoldable pub relax_all : ℕ → List Arc → List ℕ → List ℕ
relax_all c [] d = d
relax_all c (a ∷ out) d = relax_all c out (relax c a d)

pub relax_append : (c : ℕ) (xs ys : List Arc) (d : List ℕ) → relax_all c (xs ++ ys) d ≡ relax_all c ys (relax_all c xs d)
unfolding relax_all
relax_append c [] ys d = refl
relax_append c (x ∷ xs) ys d = relax_append c xs ys (relax c x d)

pub length_relax : (c : ℕ) (a : Arc) (d : List ℕ) → length (relax c a d) ≡ length d
unfolding relax
length_relax c a d = simp length-set

pub length_relax_all : (c : ℕ) (out : List Arc) (d : List ℕ) → length (relax_all c out d) ≡ length d
unfolding relax_all
length_relax_all c [] d = refl
length_relax_all c (a ∷ out) d = rw (length_relax_all c out (relax c a d), length_relax)

-- What holds of each word and of the stored one holds of each after the store.
pub at_set : (P : ℕ → ℕ → Type 0) (d : List ℕ) (i x : ℕ) → P i x → ((v : ℕ) → P v (at d v)) → (v : ℕ) → P v (at (set d i x) v)
at_set P d i x p h v = pick (ℕ_discrete v i) (dec_le (length d) i)
  where
    pick : Dec (v ≡ i) → Dec (length d ≤ i) → P v (at (set d i x) v)
    pick (no n) o = rw (get_or-set_other d i v x 0 n) (h v)
    pick (yes e) (yes o) = rw (set_out d i x o) (h v)
    pick (yes e) (no o) = rw (e, get_or-set_same d i x 0 (omega arith)) p

-- What holds between the steps. A node is settled where its flag is not 0.
pub record Inv (arcs : List Arc) (N s : ℕ) (d done : List ℕ) : Type 0 where
  pub words : length d ≡ N
  pub flags : length done ≡ N
  pub fits : (v : ℕ) → at d v ≤ no_walk
  pub begun : at d s ≡ 0
  pub real : (v : ℕ) → v < N → at d v < no_walk → Walk arcs s v (at d v)
  pub relaxed : (a : Arc) → Mem a arcs → 0 < at done a.from → at d a.to ≤ at d a.from + a.cost
  pub ordered : (x y : ℕ) → x < N → y < N → 0 < at done x → at done y ≡ 0 → at d x ≤ at d y

-- `u` is a reached, unsettled node, and none is nearer.
pub record Nearest (N : ℕ) (d done : List ℕ) (u : ℕ) : Type 0 where
  pub inside : u < N
  pub fresh : at done u ≡ 0
  pub reached : at d u < no_walk
  pub nearest : (v : ℕ) → v < N → at done v ≡ 0 → at d u ≤ at d v

-- `out` is the arcs out of `u`.
pub record Out (arcs : List Arc) (u : ℕ) (out : List Arc) : Type 0 where
  pub leave : (a : Arc) → Mem a out → a.from ≡ u
  pub known : (a : Arc) → Mem a out → Mem a arcs
  pub every : (a : Arc) → Mem a arcs → a.from ≡ u → Mem a out

-- (a) The start.
at_replicate_le : (N c v : ℕ) → at (replicate N c) v ≤ c
at_replicate_le zero c v = omega arith
at_replicate_le (suc N) c zero = omega arith
at_replicate_le (suc N) c (suc v) = at_replicate_le N c v

pub start_inv : (arcs : List Arc) (N s : ℕ) → s < N → Inv arcs N s (set (replicate N no_walk) s 0) (replicate N 0)
start_inv arcs N s h = record {
  words = simp (length-set, length-replicate);
  flags = simp length-replicate;
  fits = at_set (λ v x. x ≤ no_walk) (replicate N no_walk) s 0 (omega arith) (at_replicate_le N no_walk);
  begun = get_or-set_same (replicate N no_walk) s 0 0 (rw length-replicate h);
  real = at_set (λ v x. v < N → x < no_walk → Walk arcs s v x) (replicate N no_walk) s 0 (λ i l. stay)
      (λ v i l. absurd (omega (arith, get_or-replicate N v no_walk 0 i)));
  relaxed = λ a i l. absurd (omega (arith, at_replicate_le N 0 a.from));
  ordered = λ x y i j l e. absurd (omega (arith, at_replicate_le N 0 x));
}

module _ (arcs : List Arc) (N s : ℕ) (within : Within N arcs) (s_in : s < N) (d done : List ℕ) (inv : Inv arcs N s d done) where
  -- Along a walk from `x`, either its end is reached in time, or an unsettled node on the way is.
  frontier : {x t n : ℕ} → Walk arcs x t n → (p : ℕ) → x < N → at d x ≤ p → (at d t ≤ p + n) ⊎ ((y : ℕ) × (y < N) × (at done y ≡ 0) × (at d y ≤ p + n))
  frontier stay p i h = inl (omega arith)
  frontier (go {t = t} {n = n} a j w) p i h = pick (ℕ_discrete (at done a.from) 0) (λ l. frontier w (p + a.cost) (within a j).1 l)
    where
      pick : Dec (at done a.from ≡ 0)
          → (at d a.to ≤ p + a.cost → (at d t ≤ p + a.cost + n) ⊎ ((y : ℕ) × (y < N) × (at done y ≡ 0) × (at d y ≤ p + a.cost + n)))
          → (at d t ≤ p + (a.cost + n)) ⊎ ((y : ℕ) × (y < N) × (at done y ≡ 0) × (at d y ≤ p + (a.cost + n)))
      pick (yes e) rec = inr (a.from, i, e, omega arith)
      pick (no m) rec = rw (← add_assoc) (rec (omega (arith, inv.relaxed a j (omega arith))))

  pub from_start : {t n : ℕ} → Walk arcs s t n → (at d t ≤ n) ⊎ ((y : ℕ) × (y < N) × (at done y ≡ 0) × (at d y ≤ n))
  from_start w = rw zero-add at (frontier w 0 s_in (omega (arith, inv.begun)))

  -- A settled node is exact.
  pub settled_le : (t : ℕ) → t < N → 0 < at done t → (n : ℕ) → Walk arcs s t n → at d t ≤ n
  settled_le t i h n w = ⊎_elim (λ l. l) (λ y. omega (arith, inv.ordered t y.0 i y.1 h y.2, y.3)) (from_start w)

  pub settled_least : (t : ℕ) → t < N → 0 < at done t → at d t < no_walk → Least arcs s t (at d t)
  settled_least t i h r = record { has = inv.real t i r; least = settled_le t i h }
