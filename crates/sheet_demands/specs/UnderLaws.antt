-- The answers under a sheet, of any oracle that keeps rules 3 to 7, and whatever the sheet does to each edge. Assumes nothing.
use Prim.Native.Nat.{ℕ, ◌≤◌, ◌<◌}
use Rattle.std.proofs.Common.{arith, ◌∙◌, inl, inr, true≢false}
use Rattle.std.specs.Prelude.{◌≡◌, ◌⊎◌, Bool, ◌||◌, List, [], ◌∷◌}
use Rattle.std.proofs.Math.Path.{refl, sym, ap, subst}
use Rattle.std.proofs.Math.Bool.{true, false}
use Rattle.model.specs.Bytes.{Bytes}
use Rattle.model.specs.Pair.{Pair, key}
use Rattle.model.specs.Walk.{Arc, Walk, Least, PairWalk, nodes_after, nodes_of, Before}
use Rattle.model.specs.Distance.{Distance, unreachable, finite, IsLeast, IsLeastPair}
use Rattle.model.specs.Network.{network, order, timed_arcs, arcs, distance, max_nodes}
use Rattle.model.specs.Query.{distance_of, time_answer, local_answer, way}
use Rattle.model.specs.declared.Kind.TheVariants.{Local}
use Rattle.model.specs.declared.Answer.{Answer}
use Rattle.model.specs.declared.Answer.TheVariants.{Time, None, Refused}
use Rattle.theory.specs.Way.{before_once, Exact}
use Rattle.theory.specs.Passed.{Sound}
use Rattle.theory.specs.Sound.{few}
use Rattle.theory.specs.Keys.{keyed_walk}
use Rattle.theory.specs.PairModel.{same_arcs, distance_pair}
use Rattle.theory.specs.NetWays as ways
use Rattle.theory.specs.Ways as files
use Rattle.theory.specs.Slower.{Taking, was_walked, still_least, still_none}
use Rattle.demands.specs.Outcomes.{Answers}
use Rattle.demands.proofs.AnswerLaws.{answers}
use Rattle.sheet.specs.Sheet.{Effect}
use Rattle.sheet.specs.Under.{network_under, still_driven, is_none, old_stands}
use Rattle.sheet_demands.specs.Changed.{same_order, slower, sane}
use Rattle.sheet_demands.specs.Keyed.{to_keys, to_pairs}
use Rattle.sheet_demands.specs.DrivenLaws.{driven, driven_itself}

module _ (effect : ℕ → Effect) (o : Bytes) (sound : Sound o) (s t : ℕ) (hs : s < order (network o)) (ht : t < order (network o)) where
  abbrev old : List Arc
  old = arcs (network o)

  abbrev new : List Arc
  new = arcs (network_under effect o)

  abbrev d : ℕ → Distance
  d v = distance (network o) v t

  abbrev old_way : List ℕ
  old_way = way (network o) s t

  abbrev new_way : List ℕ
  new_way = way (network_under effect o) s t

  exact : Exact old t d
  exact = ways.right (network o) (files.sane o sound) t ht

  below : t < order (network_under effect o)
  below = rw (same_order effect o) ht

  start : s < order (network_under effect o)
  start = rw (same_order effect o) hs

  few_under : order (network_under effect o) ≤ max_nodes
  few_under = rw (same_order effect o) (few o sound)

  -- An old way is the nodes of a least walk; where there is no walk there is none.
  pub data Old : Type 0 where
    walked : {n : ℕ} (w : Walk old s t n) → d s ≡ finite n → nodes_of w ≡ old_way → Old
    absent : ((n : ℕ) → Walk old s t n → ⊥) → old_way ≡ [] → Old

  pub the_old : Old
  the_old = step (d s) refl (files.to o sound t ht s)
    where
      step : (x : Distance) → d s ≡ x → IsLeast (Walk old s t) x → Old
      step unreachable e h = absent h (files.way_empty o sound t ht h)
      step (finite n) e l = let r = files.way_least o sound t ht l in walked r.0 e r.1

  -- The old way, where it can still be driven, is that of a walk that was least.
  record Kept : Type 0 where
    n : ℕ
    least : Least old s t n
    walk : Walk new s t n
    nodes : nodes_of walk ≡ old_way

  kept : still_driven d new old_way ≡ true → Kept
  unfolding still_driven nodes_of
  kept h = step the_old
    where
      step : Old → Kept
      step (walked {n = n} w e q) =
          let z = driven old new t d exact (files.sane o sound).positive w e (rw q h) in
          record { n = n; least = (exact.times s n).0 e; walk = z.0; nodes = ap (λ x. s ∷ x) z.1 ∙ q }
      step (absent g q) = absurd (true≢false (sym (rw q at h)))

  old_first : {k n : ℕ} → Least old s t n → k ≡ n → (l : List ℕ) → Taking old s t k l → (s ∷ l ≡ old_way) ⊎ Before old_way (s ∷ l)
  unfolding nodes_of
  old_first {n = n} h e l x =
      let y : Taking old s t n l = subst (λ m. Taking old s t m l) e x in
      rw y.1 at (files.way_earliest o sound t ht h y.0)

  -- It is the way under the sheet too.
  pub way_again : still_driven d new old_way ≡ true → new_way ≡ old_way
  unfolding nodes_of
  way_again h =
      let k = kept h in
      let least : Least new s t k.n = still_least old new (slower effect o) k.least k.walk in
      let v = ways.way_least (network_under effect o) (sane effect o sound) t below least in
      let back = was_walked old new (slower effect o) v.0 in
      let e : back.0 ≡ k.n = omega (arith, back.2, k.least.least back.0 back.1.0) in
      first (rw k.nodes at (ways.way_earliest (network_under effect o) (sane effect o sound) t below least k.walk))
      (rw v.1 at (old_first k.least e (nodes_after v.0) back.1))
    where
      first : (old_way ≡ new_way) ⊎ Before new_way old_way → (new_way ≡ old_way) ⊎ Before old_way new_way → new_way ≡ old_way
      first (inl p) q = sym p
      first (inr b) (inl q) = q
      first (inr b) (inr c) = absurd (before_once new_way old_way b c)

  -- Where the old answer was the least over the old walks and stands, it is the least over what is left.
  stood_keys : IsLeast (Walk old s t) (distance_of (time_answer o s t)) → old_stands effect o s t ≡ true → IsLeast (Walk new s t) (distance_of (time_answer o s t))
  unfolding old_stands is_none distance_of
  stood_keys l h = step (time_answer o s t) l (still_driven d new old_way) refl h
    where
      step : (x : Answer) → IsLeast (Walk old s t) (distance_of x) → (b : Bool) → still_driven d new old_way ≡ b → is_none x || b ≡ true
          → IsLeast (Walk new s t) (distance_of x)
      step (Time seconds hops kind pairs) l true e h =
          let k = kept e in
          let n : ℕ = key seconds hops in
          let q : k.n ≡ n = omega (arith, l.least k.n k.least.has, k.least.least n l.has) in
          still_least old new (slower effect o) l (subst (λ m. Walk new s t m) q k.walk)
      step (Time seconds hops kind pairs) l false e h = absurd (true≢false (sym h))
      step (None kind pairs) l b e h = still_none old new (slower effect o) l
      step (Refused r) l b e h = still_none old new (slower effect o) l

  pub stood : IsLeastPair (PairWalk (timed_arcs (network o)) s t) (distance_of (time_answer o s t)) → old_stands effect o s t ≡ true
      → IsLeastPair (PairWalk (timed_arcs (network_under effect o)) s t) (distance_of (time_answer o s t))
  stood l h =
      to_pairs (network_under effect o) (sane effect o sound).ends few_under start t (distance_of (time_answer o s t))
      (stood_keys (to_keys (network o) (files.sane o sound).ends (few o sound) hs t (distance_of (time_answer o s t)) l) h)

  -- "Otherwise the roads are searched."
  pub searched : Answers (PairWalk (timed_arcs (network_under effect o)) s t) Local 0 (local_answer (network_under effect o) s t)
  unfolding local_answer
  searched =
      answers (PairWalk (timed_arcs (network_under effect o)) s t) Local 0 (distance (network_under effect o) s t)
      (distance_pair (network_under effect o) (sane effect o sound).ends few_under start t)

  -- Over the same arcs an old way can be driven.
  pub driven_old : {p : Pair} → PairWalk (timed_arcs (network o)) s t p → still_driven d old old_way ≡ true
  driven_old v = step the_old
    where
      step : Old → still_driven d old old_way ≡ true
      step (walked w e q) = rw (← q) (driven_itself old t d exact (files.sane o sound).positive w e)
      step (absent h q) = absurd (h _ (keyed_walk (timed_arcs (network o)) old (same_arcs (network o)) v.walk).0)
