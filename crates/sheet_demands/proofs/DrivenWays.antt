-- What `still_driven` asks of a whole old way: what `Driven` says. Assumes nothing.
use Rattle.std.specs.Prelude.{ℕ, ◌<◌, ◌≡◌, ◌↔◌, true, List}
use Rattle.std.proofs.Common.{sym, true≢false}
use Rattle.std.proofs.Math.Path.{refl}
use Rattle.model.specs.Bytes.{Bytes}
use Rattle.model.specs.Lists.{member}
use Rattle.model.specs.Walk.{Arc, Walk, Walk.stay, Walk.go, nodes_after, nodes_of}
use Rattle.model.specs.Distance.{Distance, finite}
use Rattle.model.specs.Network.{network, order, timed_arcs, arcs, distance}
use Rattle.model.specs.Query.{nexts, way}
use Rattle.theory.specs.Tests.{both, and}
use Rattle.theory.specs.Walks.{Positive}
use Rattle.theory.specs.Way.{Exact, then_exact, first_step}
use Rattle.theory.specs.Passed.{Sound}
use Rattle.theory.specs.PairModel.{same_arcs}
use Rattle.theory.specs.NetWays as ways
use Rattle.theory.specs.Ways as files
use Rattle.sheet.specs.Sheet.{Effect}
use Rattle.sheet.specs.Under.{still_driven, network_under}
use Rattle.sheet_demands.specs.SheetOutcomes.{Driven}
use Rattle.sheet_demands.specs.DrivenLaws.{step_to, step_from}
use Rattle.sheet_demands.specs.UnderLaws.{Old, Old.walked, Old.absent, the_old}
use Rattle.sheet_demands.proofs.KeyedSteps.{driven_seconds}

-- ---- a whole way: the nodes of a least walk
module _ (old new : List Arc) (t : ℕ) (d : ℕ → Distance) (exact : Exact old t d) (positive : Positive old) where
  to_driven : {u n : ℕ} (w : Walk old u t n) → d u ≡ finite n → still_driven d new (nodes_of w) ≡ true → Driven old new (nodes_of w)
  unfolding nodes_of nodes_after still_driven Driven
  to_driven stay e h = tt
  to_driven (go {n = k} a m w) e h =
      let p = both {b = member a.to (nexts d new a.from)} h in
      (step_to old t d exact (first_step old t d exact positive a m w e) new p.0, to_driven w (then_exact old t d exact positive a m w e) p.1)

  from_driven : {u n : ℕ} (w : Walk old u t n) → d u ≡ finite n → Driven old new (nodes_of w) → still_driven d new (nodes_of w) ≡ true
  unfolding nodes_of nodes_after still_driven Driven
  from_driven stay e h = refl
  from_driven (go {n = k} a m w) e h =
      and (step_from old t d exact (first_step old t d exact positive a m w e) new h.0)
      (from_driven w (then_exact old t d exact positive a m w e) h.1)

  pub driven_just : {u n : ℕ} (w : Walk old u t n) → d u ≡ finite n → (still_driven d new (nodes_of w) ≡ true) ↔ Driven old new (nodes_of w)
  driven_just w e = (to_driven w e, from_driven w e)

-- ---- the old way of an oracle
module _ (effect : ℕ → Effect) (o : Bytes) (sound : Sound o) (s t : ℕ) (hs : s < order (network o)) (ht : t < order (network o)) where
  abbrev old : List Arc
  old = arcs (network o)

  abbrev new : List Arc
  new = arcs (network_under effect o)

  abbrev d : ℕ → Distance
  d v = distance (network o) v t

  abbrev old_way : List ℕ
  old_way = way (network o) s t

  exact : Exact old t d
  exact = ways.right (network o) (files.sane o sound) t ht

  -- "There is an old way and its every step can still be driven in its old time", by keys ..
  driven_keys : (still_driven d new old_way ≡ true) ↔ Driven old new old_way
  unfolding still_driven Driven
  driven_keys = step (the_old effect o sound s t hs ht)
    where
      step : Old effect o sound s t hs ht → (still_driven d new old_way ≡ true) ↔ Driven old new old_way
      step (walked w e q) = rw (← q) (driven_just old new t d exact (files.sane o sound).positive w e)
      step (absent h q) = rw q (λ e. absurd (true≢false (sym e)), λ b. absurd b)

  -- .. and in seconds.
  pub driven_way : (still_driven d new old_way ≡ true) ↔ Driven (timed_arcs (network o)) (timed_arcs (network_under effect o)) old_way
  driven_way =
      let seconds = driven_seconds (timed_arcs (network o)) old (timed_arcs (network_under effect o)) new
      (same_arcs (network o)) (same_arcs (network_under effect o)) old_way in
      (λ h. seconds.0 (driven_keys.0 h), λ h. driven_keys.1 (seconds.1 h))
