-- What a way call that is not refused writes, over any network of at most 4,096 nodes: the nodes of the first walk with the least pair. Assumes nothing.
use Rattle.std.specs.Prelude.{ℕ, ◌≤◌, ◌<◌, ◌≡◌, length}
use Rattle.std.proofs.Common.{arith, sym, ◌∙◌, ap}
use Rattle.model.specs.Lists.{concat_map}
use Rattle.model.specs.Bytes.{Bytes, bytes16}
use Rattle.model.specs.Pair.{Pair, pair_of}
use Rattle.model.specs.Walk.{PairWalk, LeastPair}
use Rattle.model.specs.Distance.{Distance, unreachable, finite, IsLeastPair}
use Rattle.model.specs.Network.{Network, order, timed_arcs, distance, max_nodes}
use Rattle.model.specs.Query.{way}
use Rattle.model.specs.Calls.{output_after, route_after}
use Rattle.model.specs.declared.Route.{Route}
use Rattle.theory.specs.NetWays.{Sane}
use Rattle.theory.specs.PairModel.{distance_pair}
use Rattle.theory.proofs.WayPairs.{way_pair}
use Rattle.demands.specs.Outcomes.{WayWritten}
use Rattle.demands.specs.CallLaws as laws
use Rattle.demands.specs.Written.{count}
pub use Rattle.demands.specs.Written.{way_none}

module _ (net : Network) (sane : Sane net) (few : order net ≤ max_nodes) {s t : ℕ} (hs : s < order net) (ht : t < order net)
    {room room' : Bytes} {route : Route}
    (result : route ≡ route_after 0 (way net s t)) (bytes : room' ≡ output_after 0 (concat_map bytes16 (way net s t)) room) where
  pub way_least : (p : Pair) → LeastPair (timed_arcs net) s t p → WayWritten (timed_arcs net) s t p room route room'
  way_least p l =
      let r = way_pair net sane few hs t ht l in
      record {
        taken = r.taken;
        least = l.least;
        bytes = rw r.nodes (bytes ∙ laws.bytes_done (concat_map bytes16 (way net s t)) room);
        nodes = count (way net s t) result ∙ ap length (sym r.nodes);
        roads = omega (arith, count (way net s t) result, r.count);
        once = rw r.nodes r.once;
        first = λ other. rw r.nodes (r.first other);
      }

  pub way_first : {p : Pair} → PairWalk (timed_arcs net) s t p → (q : Pair) × WayWritten (timed_arcs net) s t q room route room'
  way_first {p} w = step (distance net s t) (distance_pair net sane.ends few hs t)
    where
      step : (d : Distance) → IsLeastPair (PairWalk (timed_arcs net) s t) d → (q : Pair) × WayWritten (timed_arcs net) s t q room route room'
      step unreachable h = absurd (h p w)
      step (finite k) h = (pair_of k, way_least (pair_of k) h)
