-- A turn of the pass: the next node of the order is marked for a reason, or passed over for want of one. Assumes nothing.
use Rattle.std.specs.Prelude.{ℕ, ◌+◌, ◌<◌, ◌≡◌, refl, ◌⊎◌, length, set}
use Rattle.std.proofs.Math.Decide.{ℕ_discrete}
use Rattle.std.proofs.Common.{arith, sym, subst, inl, inr, length-set, get_or-set_other}
use Rattle.std.proofs.Math.Path.{ap}
use Rattle.std.proofs.Math.Logic.{⊎_elim}
use mathlib.Core.List.Memᴰ
use mathlib.Core.List.{List, ◌∷◌, Memᴰ}
use Rattle.model.specs.Walk.{Arc}
use Rattle.theory.specs.Walks.{Positive}
use Rattle.algorithms.specs.Dijkstra.{at}
use Rattle.algorithms.specs.Settle.{Falling, flag_here, flag_stays}
use Rattle.algorithms.specs.Marks.{ends, leads}
use Rattle.algorithms.specs.Pass as pass
use Rattle.algorithms.specs.Pass.{Reason, wanted, onward}

-- A mark after a store of a mark.
mark_cases : (m : List ℕ) (v w : ℕ) → 0 < at (set m v 1) w → (w ≡ v) ⊎ (0 < at m w)
mark_cases m v w h = pick (ℕ_discrete w v)
  where
    pick : Dec (w ≡ v) → (w ≡ v) ⊎ (0 < at m w)
    pick (yes e) = inl e
    pick (no n) = inr (rw (get_or-set_other m v w 1 0 n) at h)

module _ (arcs : List Arc) (d : List ℕ) (Q : ℕ → Type 0) (order : List ℕ) where
  abbrev R : ℕ → Type 0
  R v = Memᴰ v order

  abbrev Is : ℕ → Type 0
  Is v = pass.Is arcs d Q order v

  abbrev Upto : ℕ → List ℕ → List ℕ → Type 0
  Upto N rest m = pass.Upto arcs d Q order N rest m

  -- A reason is right.
  reason_marked : {m : List ℕ} (v : ℕ) → R v → ((w : ℕ) → 0 < at m w → Is w) → Reason arcs (at d) Q m v → Is v
  reason_marked v r k (wanted g) = ends r g
  reason_marked v r k (onward a i e t h) = subst Is e (leads a i (rw e r) (rw e t) (k a.to h))

  module _ (N : ℕ) (v : ℕ) (rest m : List ℕ) (v_in : v < N) (falls : Falling d (v ∷ rest)) (u : Upto N (v ∷ rest) m) where
    room : v < length m
    room = rw u.words v_in

    -- A node farther than v is not still to come.
    passed : (w : ℕ) → at d v < at d w → Memᴰ w (v ∷ rest) → ⊥
    unfolding Falling
    passed w l i = ⊎_elim (λ e. omega (arith, ap (at d) e)) (λ j. omega (arith, falls.0 w j)) (Memᴰ.cases_cons i)

    -- A marked node has a reason, where every arc costs something: the arc leads to a farther node, whose mark stands already.
    marked_reason : Positive arcs → Is v → Reason arcs (at d) Q m v
    marked_reason pos k = pick k refl
      where
        pick : {w : ℕ} → Is w → w ≡ v → Reason arcs (at d) Q m v
        pick (ends r g) e = wanted (subst Q e g)
        pick (leads a i r t h) e =
            let c : at d a.to ≡ at d v + a.cost = rw (← e) t in
            onward a i e c (u.full a.to (passed a.to (omega (arith, pos a i))) h)

    -- The next node of the order: marked for a reason, or passed over for want of one.
    pub turn_mark : R v → Reason arcs (at d) Q m v → Upto N rest (set m v 1)
    turn_mark r why = record {
      words = rw length-set u.words;
      real = λ w l. ⊎_elim (λ e. subst Is (sym e) (reason_marked v r u.real why)) (λ k. u.real w k) (mark_cases m v w l);
      full = λ w n k. ⊎_elim (λ e. flag_here m v w room e) (λ ne. flag_stays m v w room (u.full w (λ i. ⊎_elim (λ e. ne e) n (Memᴰ.cases_cons i)) k))
          (same_or w);
    }
      where
        same_or : (w : ℕ) → (w ≡ v) ⊎ (w ≡ v → ⊥)
        same_or w = pick (ℕ_discrete w v)
          where
            pick : Dec (w ≡ v) → (w ≡ v) ⊎ (w ≡ v → ⊥)
            pick (yes e) = inl e
            pick (no n) = inr n

    pub turn_skip : Positive arcs → (Reason arcs (at d) Q m v → ⊥) → Upto N rest m
    turn_skip pos none = record {
      words = u.words;
      real = u.real;
      full = λ w n k. u.full w (λ i. ⊎_elim (λ e. none (marked_reason pos (subst Is e k))) n (Memᴰ.cases_cons i)) k;
    }
