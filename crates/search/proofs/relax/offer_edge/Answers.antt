-- `relax::offer_edge` meets its contract: nothing is left of the edge, or one arc out of u.
use native.Mathlib.Omega.{arith}
use mathlib.Core.Path.{refl}
use Rattle.model.specs.Network.{edge_count}
use Rattle.arcs.proofs.Passes.{none_left}
use Rattle.words.proofs.Parts.{front_others}
use Rattle.words.specs.Regions.{search_words}
use Rattle.search.proofs.Edges.{edge_room, end_in, cost_low, one_arc, closed_edge, offered}
use Rattle.search.proofs.relax.offer_edge.Goals as goal

pub returns-then-cost-eq-NO_WALK : goal.returns-then-cost-eq-NO_WALK
returns-then-cost-eq-NO_WALK c =
    let a = c.args in record {
      relaxed = closed_edge a.n a.e a.u a.d a.work.now a.k c.requires.holds.0 _
          (none_left _ _ a.u a.i _ c.if-cost-eq-NO_WALK.true c.cost_left-cost.ensures);
      others = refl;
    }

pub read-edge-requires : goal.read-edge-requires
unfolding edge_count
read-edge-requires c = omega (arith, c.requires.edges_value.1)

pub overflow_add-d : goal.overflow_add-d
overflow_add-d c =
    let a = c.args in
    omega (
      arith,
      c.requires.holds.3,
      cost_low a.edges.now a.lines.now a.n a.u a.i c.requires.edges_value.0 c.requires.edges_value.1 c.requires.edges_value.2 _ _ _ _
          c.read-edge.ensures.first.0
          c.read-edge.ensures.second.0 c.other_end-v.ensures
          c.cost_left-cost.ensures c.if-cost-eq-NO_WALK.false,
    )

pub offer_in-requires : goal.offer_in-requires
offer_in-requires c =
    let a = c.args in
    let i = end_in a.edges.now a.lines.now a.n a.u a.i c.requires.edges_value.0 c.requires.edges_value.1 c.requires.edges_value.2 _ _ _ _
    c.read-edge.ensures.first.0 c.read-edge.ensures.second.0
    c.other_end-v.ensures c.cost_left-cost.ensures in
    rw c.search_words-front.ensures (c.requires.holds.0, i, λ h. omega (arith, c.requires.holds.1 _ i h))

pub returns : goal.returns
returns c =
    let a = c.args in
    let k = rw c.search_words-front.ensures at c.offer_in.auto.work in
    let l = edge_room a.n a.edges.now a.i a.work.now c.requires.edges_value.0 c.requires.edges_value.1 c.requires.holds.2 in
    let x = one_arc a.edges.now a.lines.now a.n a.u a.i c.requires.edges_value.0 c.requires.edges_value.1 c.requires.edges_value.2 _ _ _ _
    c.read-edge.ensures.first.0
    c.read-edge.ensures.second.0
    c.other_end-v.ensures
    c.cost_left-cost.ensures
    c.if-cost-eq-NO_WALK.false in record {
      relaxed = rw c.search_words-front.ensures (offered a.n a.e a.u a.d a.work.now a.k c.requires.holds.0 _ _ _ x c.offer_in.new.work _ l k (rw c.search_words-front.ensures at c.offer_in.ensures));
      others = rw c.search_words-front.ensures (front_others a.work.now c.offer_in.new.work (search_words a.n) l k);
    }
