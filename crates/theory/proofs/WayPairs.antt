-- The way is the first by node numbers among the walks with the least pair. Assumes nothing.
use Prim.Native.Nat.{ℕ, suc, ◌≤◌, ◌<◌}
use Rattle.std.proofs.Common.{arith, ◌∙◌, inl, inr}
use Rattle.std.specs.Prelude.{◌≡◌, ◌⊎◌}
use Rattle.std.proofs.Math.Path.{refl, sym, ap, subst}
use mathlib.Core.List.{List, [], ◌∷◌}
use Rattle.std.proofs.Math.ListN.{length}
use Rattle.model.specs.Lists.{Distinct}
use Rattle.model.specs.Pair.{Pair, NoMore, key}
use Rattle.model.specs.Walk.{Walk, hops, PairWalk, LeastPair, nodes_after, nodes_of, Before}
use Rattle.model.specs.Network.{Network, order, timed_arcs, arcs, max_nodes}
use Rattle.model.specs.Query.{way}
use Rattle.theory.specs.Keys.{key_of, Timed, keyed_walk, timed_walk}
use Rattle.theory.specs.PairModel.{same_arcs, none_timed}
use Rattle.theory.proofs.PairLaws.{pair_hops, pair_least}
use Rattle.theory.specs.Simple.{nodes_count, distinct}
use Rattle.theory.specs.NetWays.{Sane, way_least, way_earliest, way_empty}
use Rattle.theory.specs.PairWays.{FirstWay}

module _ (net : Network) (sane : Sane net) (few : order net ≤ max_nodes) {u : ℕ} (u_in : u < order net) (t : ℕ) where
  -- The nodes of a least walk by keys are those of a walk with the least pair ..
  walk_pair : {p : Pair} → LeastPair (timed_arcs net) u t p → (w : Walk (arcs net) u t (key_of p))
      → (v : PairWalk (timed_arcs net) u t p) × (nodes_of v.walk ≡ nodes_of w)
  unfolding NoMore nodes_of
  walk_pair {p} l w =
      let r = timed_walk (timed_arcs net) (arcs net) (same_arcs net) w in
      step r (l.least (record { seconds = r.seconds; hops = hops r.walk }) (record { walk = r.walk; its_hops = refl }))
    where
      step : (r : Timed (timed_arcs net) u t (key_of p) (nodes_after w) (hops w))
          → (p.seconds < r.seconds) ⊎ ((p.seconds ≡ r.seconds) × (p.hops ≤ hops r.walk))
          → (v : PairWalk (timed_arcs net) u t p) × (u ∷ nodes_after v.walk ≡ u ∷ nodes_after w)
      step r (inl h) = absurd (omega (arith, few, pair_hops net sane.ends few u_in t l, r.total))
      step r (inr h) =
          let q : Pair = record { seconds = r.seconds; hops = hops r.walk } in
          let b : hops r.walk ≡ p.hops = omega (arith, h.0, h.1, r.total) in
          let e : q ≡ p = λ i. record { seconds = sym h.0 i; hops = b i } in
          subst (λ (x : Pair). (v : PairWalk (timed_arcs net) u t x) × (u ∷ nodes_after v.walk ≡ u ∷ nodes_after w)) e
          (record { walk = r.walk; its_hops = refl }, ap (λ (l : List ℕ). u ∷ l) r.along)

  -- .. and back.
  pair_walk : {p : Pair} (v : PairWalk (timed_arcs net) u t p) → (w : Walk (arcs net) u t (key_of p)) × (nodes_of w ≡ nodes_of v.walk)
  unfolding nodes_of
  pair_walk {p} v =
      let r = keyed_walk (timed_arcs net) (arcs net) (same_arcs net) v.walk in
      subst (λ (h : ℕ). (w : Walk (arcs net) u t (key p.seconds h)) × (u ∷ nodes_after w ≡ u ∷ nodes_after v.walk)) v.its_hops
      (r.0, ap (λ (l : List ℕ). u ∷ l) r.1)

  -- Where there is a walk, the way is the first of those with the least pair ..
  pub way_pair : t < order net → {p : Pair} → LeastPair (timed_arcs net) u t p → FirstWay net u t p
  unfolding nodes_of
  way_pair ht {p} l =
      let k = pair_least net sane.ends few u_in t l in
      let r = way_least net sane t ht k in
      let v = walk_pair l r.0 in
      let e = v.1 ∙ r.1 in
      record {
        taken = v.0;
        nodes = e;
        count = sym (ap length e) ∙ ap suc (nodes_count v.0.walk ∙ v.0.its_hops);
        once = subst Distinct r.1 (distinct sane.positive r.0 k);
        first = λ other.
            let w = pair_walk other in
            subst (λ (x : List ℕ). (x ≡ way net u t) ⊎ Before (way net u t) x) w.1 (way_earliest net sane t ht k w.0);
      }

  -- .. and where there is none, it is empty.
  pub way_absent : t < order net → ((p : Pair) → PairWalk (timed_arcs net) u t p → ⊥) → way net u t ≡ []
  way_absent ht h = way_empty net sane t ht ((none_timed net sane.ends few u_in t).1 h)
