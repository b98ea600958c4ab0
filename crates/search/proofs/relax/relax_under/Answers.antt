-- `relax::relax_under` meets its contract: what is left of the edges passed is relaxed, and at the end those are all.
use native.Mathlib.Omega.{arith}
use mathlib.Core.Path.{refl}
use borrow.Author.Rules.{rules}
use Rattle.model.specs.Network.{edge_count}
use Rattle.arcs.proofs.Passes.{end_at}
use Rattle.search.proofs.Relaxes.{time_read}
use Rattle.search.proofs.Edges.{edges_first, turn_edges, turn_passing, edges_next, edges_last}
use Rattle.search.proofs.relax.relax_under.Goals as goal

pub loop-c-init : goal.loop-c-init
loop-c-init c =
    let a = c.args in (
      refl,
      edges_first a.edges.now a.lines.now a.n a.e a.u c.time_of-d.result a.work.now a.k _ c.requires.holds.0
          (rw (time_read a.n a.u a.work.now c.requires.holds.1 _ c.time_of-d.ensures.0) at c.requires.holds.2) c.requires.edges_under.0 c.first_edge-c.ensures,
    )

pub offer_edge-held-requires : goal.offer_edge-held-requires
unfolding edge_count
offer_edge-held-requires c =
    let g = c.loop-c.invariant.1 in
    record { holds = (g.relaxed.holds, g.within, omega (arith, c.loop-c.invariant.0, c.requires.edges_under.1), omega arith); edges_value = (g.edges.roads.ends, c.loop-c-test.true, end_at _ _ _ _ _ _ g.edges g.passing.valid c.loop-c-test.true, g.edges.spanned) }

pub next_edge-c-requires : goal.next_edge-c-requires
unfolding edge_count
next_edge-c-requires c =
    let a = c.args in
    let k = c.offer_edge-held.ensures.others in record {
      n_le_max_nodes = (c.requires.holds.0.queue.positioned.few, search rules, c.requires.holds.1);
      indexed_edges = (turn_edges a.edges.now a.lines.now a.n a.e a.u c.time_of-d.result a.work.now c.loop-c.c c.loop-c.held c.loop-c.work _ c.loop-c.invariant.1 k).roads;
      valid = (
        (turn_passing a.edges.now a.lines.now a.n a.e a.u c.time_of-d.result a.work.now c.loop-c.c c.loop-c.held c.loop-c.work _
            c.loop-c.invariant.1 k).valid,
        c.loop-c-test.true,
      );
    }

pub loop-c-preserved : goal.loop-c-preserved
loop-c-preserved c =
    let a = c.args in (
      search rules,
      edges_next a.edges.now a.lines.now a.n a.e a.u c.time_of-d.result a.work.now c.loop-c.c c.loop-c.held c.loop-c.work _ c.loop-c.invariant.1 c.offer_edge-held.ensures.others _ c.offer_edge-held.ensures.relaxed
          _
          c.next_edge-c.ensures,
    )

pub returns : goal.returns
unfolding edge_count
returns c =
    let a = c.args in
    record {
      relaxed = rw (time_read a.n a.u a.work.now c.requires.holds.1 _ c.time_of-d.ensures.0)
          (edges_last a.edges.now a.lines.now a.n a.e a.u c.time_of-d.result a.work.now c.loop-c.held c.loop-c.work c.loop-c.c
          (omega (arith, c.loop-c-test.false)) c.loop-c.invariant.1);
      others = c.loop-c.invariant.1.others;
    }
