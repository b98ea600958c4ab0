-- The distances of a network of at most 4,096 nodes are the least pairs over all walks. Assumes nothing.
use Rattle.std.specs.Prelude.{ℕ, ◌≤◌, ◌<◌, ◌≡◌, refl, ◌⊎◌, ◌↔◌}
use Rattle.std.proofs.Common.{arith, ap, inl, inr}
use mathlib.Core.List.Memᴰ
use mathlib.Core.List.{[], ◌∷◌, Memᴰ}
use Rattle.model.specs.Lists.{concat_map}
use Rattle.model.specs.Pair.{Pair, hop_base, key, pair_of, hops_of}
use Rattle.model.specs.Walk.{Arc, Mem, Walk, Least, PairWalk, LeastPair}
use Rattle.model.specs.Distance.{Distance, unreachable, finite, IsLeast, IsLeastPair}
use Rattle.model.specs.Network.{Edge, Network, order, timed_of, timed_arcs, arcs_of, arcs, distance, max_nodes}
use Rattle.theory.specs.Members.{concat_map→, →concat_map}
use Rattle.theory.specs.Keys.{keyed, Keyed, pair_of_least, decoded_no_walk}
use Rattle.theory.specs.FarModel.{inside, exact}

-- The arcs that distances go by are the timed arcs with their pairs.
pub same_arcs : (net : Network) → Keyed (timed_arcs net) (arcs net)
unfolding timed_arcs arcs timed_of arcs_of
same_arcs net = record { there = there; back = back }
  where
    there : (a : Arc) → Mem a (concat_map timed_of net.edges) → Mem (keyed a) (concat_map arcs_of net.edges)
    there a m = let r = concat_map→ timed_of net.edges m in step r.0 r.1 (Memᴰ.cases_cons r.2)
      where
        step : (e : Edge) → Memᴰ e net.edges
            → (a ≡ record { from = e.first; to = e.second; cost = e.seconds })
            ⊎ Mem a (record { from = e.second; to = e.first; cost = e.seconds } ∷ [])
            → Mem (keyed a) (concat_map arcs_of net.edges)
        step e k (inl q) = →concat_map arcs_of net.edges k (Memᴰ.head (ap keyed q))
        step e k (inr n) = →concat_map arcs_of net.edges k (Memᴰ.tail (Memᴰ.head (ap keyed (Memᴰ.eq_of_singleton n))))

    back : (a : Arc) → Mem a (concat_map arcs_of net.edges) → (b : Arc) × Mem b (concat_map timed_of net.edges) × (a ≡ keyed b)
    back a m = let r = concat_map→ arcs_of net.edges m in step r.0 r.1 (Memᴰ.cases_cons r.2)
      where
        step : (e : Edge) → Memᴰ e net.edges
            → (a ≡ record { from = e.first; to = e.second; cost = key e.seconds 1 })
            ⊎ Mem a (record { from = e.second; to = e.first; cost = key e.seconds 1 } ∷ [])
            → (b : Arc) × Mem b (concat_map timed_of net.edges) × (a ≡ keyed b)
        step e k (inl q) = (record { from = e.first; to = e.second; cost = e.seconds }, →concat_map timed_of net.edges k (Memᴰ.head refl), q)
        step e k (inr n) = (
          record { from = e.second; to = e.first; cost = e.seconds },
          →concat_map timed_of net.edges k (Memᴰ.tail (Memᴰ.head refl)),
          Memᴰ.eq_of_singleton n,
        )

-- ---- a network of at most 4,096 nodes
module _ (net : Network) (ends : (e : Edge) → Memᴰ e net.edges → (e.first < order net) × (e.second < order net)) (few : order net ≤ max_nodes) where
  few_nodes : order net ≤ hop_base
  few_nodes = omega (arith, few)

  module _ {u : ℕ} (u_in : u < order net) (t : ℕ) where
    -- The least total by keys is the least pair over all walks, and has fewer hops than there are nodes (and back: proofs/PairLaws).
    pub least_pair : {k : ℕ} → Least (arcs net) u t k → LeastPair (timed_arcs net) u t (pair_of k) × (hops_of k < order net)
    least_pair l = pair_of_least (timed_arcs net) (arcs net) (same_arcs net) (order net) few_nodes (inside net ends) u t u_in l

    pub none_timed : ((n : ℕ) → Walk (arcs net) u t n → ⊥) ↔ ((p : Pair) → PairWalk (timed_arcs net) u t p → ⊥)
    none_timed = decoded_no_walk (timed_arcs net) (arcs net) (same_arcs net) (order net) few_nodes (inside net ends) u t u_in

    by_walks : (x : Distance) → IsLeast (Walk (arcs net) u t) x → IsLeastPair (PairWalk (timed_arcs net) u t) x
    by_walks (finite k) l = (least_pair l).0
    by_walks unreachable h = none_timed.0 h

    -- "d becomes that pair": the distance is the least pair over all walks, and unreachable exactly where there is no walk.
    pub distance_pair : IsLeastPair (PairWalk (timed_arcs net) u t) (distance net u t)
    distance_pair = by_walks (distance net u t) (exact net ends u t u_in)

    pub hops_few : (k : ℕ) → distance net u t ≡ finite k → hops_of k < order net
    hops_few k e = (least_pair (rw e at (exact net ends u t u_in))).1
