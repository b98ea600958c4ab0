-- The old way is driven step by step. Assumes nothing.
use Prim.Native.Nat.{ℕ, ◌<◌}
use native.Mathlib.Omega.{arith}
use mathlib.Core.Path.{◌≡◌, refl, sym, ap, ◌∙◌, subst}
use mathlib.Core.Bool.{Bool, true, false, cond, ◌&&◌, ◌||◌}
use mathlib.Core.List.{List, [], ◌∷◌, map}
use borrow.Author.Tests.{eq-eqb, eqb-true}
use lib.Dec.{eqb}
use lib.ListN.{get_or}
use Rattle.model.specs.Lists.{any, filter, member}
use Rattle.model.specs.Walk.{Arc}
use Rattle.model.specs.Distance.{Distance, finite, plus, agree}
use Rattle.model.specs.Oracle.{no_walk}
use Rattle.model.specs.Query.{nexts, way_after}
use Rattle.theory.specs.Tests.{both}
use Rattle.theory.specs.Least.{apart}
use Rattle.sheet.specs.Under.{still_driven}
use Rattle.way.specs.Distances.{distance_in, way_in}
use Rattle.way.specs.Driven.{rest_driven, NextDriven}
use Rattle.way.specs.declared.driven.Step.{Step}
use Rattle.way.specs.declared.driven.Step.TheVariants.{To, End, Broken}
use Rattle.way.proofs.Words.{node_in, none_in, word_of}

-- ---- one step, from u to v
module _ (d : ℕ → Distance) (u v : ℕ) where
  -- An arc drives it.
  abbrev pub driving : Arc → Bool
  driving a = (eqb a.from u && agree (plus (finite a.cost) (d a.to)) (d u)) && eqb v a.to

  pub driving_from : (a : Arc) → driving a ≡ true → a.from ≡ u
  driving_from a e = eqb-true a.from u (both {b = eqb a.from u} (both {b = eqb a.from u && agree (plus (finite a.cost) (d a.to)) (d u)} e).0).0

  abbrev test : Arc → Bool
  test a = eqb a.from u && agree (plus (finite a.cost) (d a.to)) (d u)

  pub some_drives : (arcs : List Arc) → any driving arcs ≡ member v (nexts d arcs u)
  unfolding nexts any filter member
  some_drives [] = refl
  some_drives (a ∷ arcs) = step (test a) (some_drives arcs)
    where
      step : (b : Bool) → any driving arcs ≡ member v (nexts d arcs u)
          → ((b && eqb v a.to) || any driving arcs) ≡ member v (map (λ x. x.to) (cond b (a ∷ filter test arcs) (filter test arcs)))
      step true e = ap (λ (z : Bool). eqb v a.to || z) e
      step false e = e

  -- The code asks whether the arc is of the time left, and ends at v.
  pub asked : (to cost left : ℕ) (b : Bool) → d u ≡ finite left → b ≡ (agree (plus (finite cost) (d to)) (finite left) && eqb v to)
      → b ≡ driving (record { from = u; to = to; cost = cost })
  asked to cost left b e q = rw (e, eq-eqb u u refl) q

-- ---- the next node v, as the code has chosen it

-- The time left at u, as the code has read it.
pub left_read : {d : ℕ → Distance} {old new : List Arc} {n u x y : ℕ} {r : Step} → x ≡ y → NextDriven d old new n u x r → NextDriven d old new n u y r
left_read {d} {old} {new} {n} {u} {r = r} e k = subst (λ (z : ℕ). NextDriven d old new n u z r) e k

module _ (d : ℕ → Distance) (old new : List Arc) (n u left : ℕ) where
  pub way_ended : way_after d old left u ≡ [] → NextDriven d old new n u left End
  unfolding still_driven
  way_ended e = record { on = λ v z. cc; ended = λ z. rw e; broken = λ z. cc }

  module _ (v x : ℕ) (inside : v < n) (on : way_after d old left u ≡ v ∷ way_after d old x v) where
    pub step_driven : d v ≡ finite x → x < left → member v (nexts d new u) ≡ true → NextDriven d old new n u left (To v)
    unfolding still_driven
    step_driven e l m = record {
      on = λ w z. let q : v ≡ w = cc in rw (← q) (inside, (x, e, l, rw (on, m)));
      ended = λ z. cc;
      broken = λ z. cc;
    }

    pub step_broken : member v (nexts d new u) ≡ false → NextDriven d old new n u left Broken
    unfolding still_driven
    step_broken m = record { on = λ w z. cc; ended = λ z. cc; broken = λ z. rw (on, m) }

-- ---- the whole way: the check stands at u
pub record StillAt (whole : Bool) (times : List ℕ) (old new : List Arc) (n u : ℕ) : Type 0 where
  pub inside : u < n
  pub walked : get_or times u 0 ≡ no_walk → ⊥
  pub rest : whole ≡ rest_driven (distance_in times) old new (get_or times u 0) u

module _ (times : List ℕ) (old new : List Arc) (n : ℕ) where
  abbrev d : ℕ → Distance
  d = distance_in times

  pub none_driven : (s : ℕ) → way_in times old s ≡ [] → false ≡ still_driven d new (way_in times old s)
  unfolding still_driven
  none_driven s e = rw e

  pub still_first : (s : ℕ) → s < n → (x : ℕ) → x ≡ get_or times s 0 → (x ≡ no_walk → ⊥) → way_in times old s ≡ s ∷ way_after d old x s
      → StillAt (still_driven d new (way_in times old s)) times old new n s
  still_first s h x q z e = record {
    inside = h;
    walked = λ y. z (q ∙ y);
    rest = ap (still_driven d new) (e ∙ ap (λ (k : ℕ). s ∷ way_after d old k s) q);
  }

  module _ (whole : Bool) (u : ℕ) (at : StillAt whole times old new n u) (v : ℕ) (next : NextDriven d old new n u (get_or times u 0) (To v)) where
    abbrev o : (v < n) × ((x : ℕ) × (d v ≡ finite x) × (x < get_or times u 0)
        × (rest_driven d old new (get_or times u 0) u ≡ rest_driven d old new x v))
    o = next.on v refl

    time_is : get_or times v 0 ≡ o.1.0
    time_is = word_of times v (node_in times v o.1.0 o.1.1) o.1.0 o.1.1

    pub still_next : StillAt whole times old new n v
    still_next = record {
      inside = o.0;
      walked = λ z. apart (sym (none_in times v (node_in times v o.1.0 o.1.1) z) ∙ o.1.1);
      rest = at.rest ∙ (o.1.3 ∙ ap (λ (k : ℕ). rest_driven d old new k v) (sym time_is));
    }

    -- The time falls from step to step.
    pub left_less : get_or times v 0 < get_or times u 0
    left_less = omega (arith, time_is, o.1.2)
