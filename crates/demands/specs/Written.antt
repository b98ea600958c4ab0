-- What a way call that is not refused writes where there is no walk. Assumes nothing.
use Rattle.std.specs.Prelude.{ℕ, ◌≤◌, ◌<◌, ◌≡◌, List, length}
use Rattle.std.proofs.Common.{◌∙◌, ap}
use Rattle.model.specs.Lists.{concat_map}
use Rattle.model.specs.Bytes.{Bytes, bytes16}
use Rattle.model.specs.Pair.{Pair}
use Rattle.model.specs.Walk.{PairWalk}
use Rattle.model.specs.Network.{Network, order, timed_arcs, max_nodes}
use Rattle.model.specs.Query.{way}
use Rattle.model.specs.Calls.{output_after, route_after}
use Rattle.model.specs.declared.Route.{Route}
use Rattle.theory.specs.NetWays.{Sane}
use Rattle.theory.proofs.WayPairs.{way_absent}

pub count : (nodes : List ℕ) {route : Route} → route ≡ route_after 0 nodes → route.nodes ≡ length nodes
unfolding route_after
count nodes e = ap (λ (r : Route). r.nodes) e

module _ (net : Network) (sane : Sane net) (few : order net ≤ max_nodes) {s t : ℕ} (hs : s < order net) (ht : t < order net)
    {room room' : Bytes} {route : Route}
    (result : route ≡ route_after 0 (way net s t)) (bytes : room' ≡ output_after 0 (concat_map bytes16 (way net s t)) room) where
  pub way_none : ((p : Pair) → PairWalk (timed_arcs net) s t p → ⊥) → (route.nodes ≡ 0) × (room' ≡ room)
  way_none h =
      let e = way_absent net sane few hs t ht h in
      (count (way net s t) result ∙ ap length e, bytes ∙ (unfold output_after concat_map in rw e))
