-- What `still_driven` asks of an old way. Assumes nothing.
use Rattle.std.specs.Prelude.{ℕ, ◌+◌, ◌≤◌, ◌≡◌, ◌↔◌, true, List}
use Rattle.std.proofs.Common.{arith, sym, ◌∙◌, subst}
use Rattle.std.proofs.Math.Path.{refl}
use Rattle.model.specs.Lists.{member}
use Rattle.model.specs.Walk.{Arc, Walk, Walk.stay, Walk.go, LeastOf, nodes_after, nodes_of}
use Rattle.model.specs.Distance.{Distance, finite}
use Rattle.model.specs.Query.{nexts}
use Rattle.theory.specs.Tests.{both, and}
use Rattle.theory.specs.Members.{member→, →member}
use Rattle.theory.specs.Least.{time_inj}
use Rattle.theory.specs.Walks.{Positive}
use Rattle.theory.specs.Way.{Exact, Step, nexts→, →nexts, then_exact, first_step}
use Rattle.theory.specs.Slower.{Taking, extend}
use Rattle.sheet.specs.Under.{still_driven}
use Rattle.sheet_demands.specs.SheetOutcomes.{Between, Again}

-- ---- a step of an old way
module _ (old : List Arc) (t : ℕ) (d : ℕ → Distance) (exact : Exact old t d) {u v : ℕ} (s : Step d old u v) where
  -- The arc that it took takes the least seconds between the two.
  pub step_least : LeastOf (Between old u v) s.arc.cost
  step_least = record {
    has = record { arc = s.arc; listed = s.listed; starts = s.starts; ends = s.ends; cost = refl };
    least = λ c b. least b;
  }
    where
      least : {c : ℕ} → Between old u v c → s.arc.cost ≤ c
      least b =
          let rest : Walk old b.arc.to t s.k = rw b.ends ((exact.times v s.k).0 s.there).has in
          let all : Walk old u t (b.arc.cost + s.k) = rw (← b.starts) (go b.arc b.listed rest) in
          omega (arith, ((exact.times u s.n).0 s.here).least (b.arc.cost + s.k) all, s.sum, b.cost)

  -- It is still driven just where some arc between the two takes just the seconds of the arc that it took.
  pub step_again : (new : List Arc) → (member v (nexts d new u) ≡ true) ↔ Between new u v s.arc.cost
  step_again new = (to, back)
    where
      to : member v (nexts d new u) ≡ true → Between new u v s.arc.cost
      to h =
          let r = nexts→ d new u (member→ v (nexts d new u) h) in
          let i : s.n ≡ r.n = time_inj (sym s.here ∙ r.here) in
          let j : s.k ≡ r.k = time_inj (sym s.there ∙ r.there) in
          record { arc = r.arc; listed = r.listed; starts = r.starts; ends = r.ends; cost = omega (arith, r.sum, s.sum) }

      back : Between new u v s.arc.cost → member v (nexts d new u) ≡ true
      back b = →member v (nexts d new u) (→nexts d new u v (record {
        arc = b.arc;
        listed = b.listed;
        starts = b.starts;
        ends = b.ends;
        n = s.n;
        k = s.k;
        here = s.here;
        there = s.there;
        sum = omega (arith, s.sum, b.cost);
      }))

  pub step_to : (new : List Arc) → member v (nexts d new u) ≡ true → Again old new u v
  step_to new h = record { seconds = s.arc.cost; was = step_least; still = (step_again new).0 h }

  pub step_from : (new : List Arc) → Again old new u v → member v (nexts d new u) ≡ true
  step_from new g =
      let l = step_least in
      let e : g.seconds ≡ s.arc.cost = omega (arith, l.least g.seconds g.was.has, g.was.least s.arc.cost l.has) in
      (step_again new).1 (subst (λ (c : ℕ). Between new u v c) e g.still)

-- ---- a whole way: the nodes of a least walk
module _ (old new : List Arc) (t : ℕ) (d : ℕ → Distance) (exact : Exact old t d) (positive : Positive old) where
  -- Where every step of a least walk can still be driven in its old time, its nodes can be walked in its time.
  pub driven : {u n : ℕ} (w : Walk old u t n) → d u ≡ finite n → still_driven d new (nodes_of w) ≡ true → Taking new u t n (nodes_after w)
  unfolding nodes_after nodes_of still_driven
  driven stay e h = (stay, refl)
  driven (go {n = k} a m w) e h =
      let p = both {b = member a.to (nexts d new a.from)} h in
      let s = nexts→ d new a.from (member→ a.to (nexts d new a.from) p.0) in
      let e' = then_exact old t d exact positive a m w e in
      let i : a.cost + k ≡ s.n = time_inj (sym e ∙ s.here) in
      let j : k ≡ s.k = time_inj (sym e' ∙ s.there) in
      extend s.arc s.listed {l = nodes_after w} s.starts s.ends (omega (arith, s.sum, i, j)) (driven w e' p.1)

-- Every step of a least walk is driven in its time over the same arcs.
pub driven_itself : (es : List Arc) (t : ℕ) (d : ℕ → Distance) (exact : Exact es t d) (positive : Positive es) {u n : ℕ} (w : Walk es u t n) → d u ≡ finite n
    → still_driven d es (nodes_of w) ≡ true
unfolding nodes_of nodes_after still_driven
driven_itself es t d exact positive stay e = refl
driven_itself es t d exact positive (go {n = k} a m w) e =
    and (→member a.to (nexts d es a.from) (→nexts d es a.from a.to (first_step es t d exact positive a m w e)))
    (driven_itself es t d exact positive w (then_exact es t d exact positive a m w e))
