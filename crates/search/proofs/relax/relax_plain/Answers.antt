-- `relax::relax_plain` meets its contract: the arcs that the walk has passed are relaxed, and at its end those are all.
use native.Mathlib.Omega.{arith}
use mathlib.Core.Path.{refl}
use borrow.Author.Rules.{rules}
use mathlib.Core.List.{[]}
use Rattle.search.proofs.Relaxes.{passed_first, turn_passes, turn_edges, passed_next, passed_last, time_read}
use Rattle.arcs.proofs.Passes.{first_arc_here, passes_first}
use Rattle.search.proofs.relax.relax_plain.Goals as goal

pub loop-a-init : goal.loop-a-init
loop-a-init c =
    let a = c.args in (
      refl,
      passed_first a.edges.now [] a.n a.e a.u c.time_of-d.result a.work.now a.k _ c.requires.holds.0
          (rw (time_read a.n a.u a.work.now c.requires.holds.1 _ c.time_of-d.ensures.0) at c.requires.holds.2) c.requires.edges_under.0
          (passes_first _ _ _ _ _ _ _ (first_arc_here _ _ _ _ _ _ _ c.arc_at-a.ensures.0 c.first_edge-c.ensures.valid
          (λ z. omega (arith, z, c.arc_at-a.ensures.1))) c.first_edge-c.ensures),
    )

pub next_arc-a-requires : goal.next_arc-a-requires
next_arc-a-requires c =
    let a = c.args in
    let ys = c.offer_in-held.new.work in
    let k = rw c.search_words-front.ensures at c.offer_in-held.auto.work in
    record {
      n_le_max_nodes = (c.requires.holds.0.queue.positioned.few, search rules, c.requires.holds.1);
      indexed_edges = rw c.search_words-front.ensures (turn_edges a.edges.now [] a.n a.e a.u c.time_of-d.result a.work.now c.loop-a.a c.loop-a.held
          c.loop-a.work ys c.loop-a.invariant.1 (omega (arith, c.loop-a.invariant.0, c.requires.edges_under.1)) k).roads;
      valid_arc = (
        rw c.search_words-front.ensures (turn_passes a.edges.now [] a.n a.e a.u c.time_of-d.result a.work.now
            c.loop-a.a c.loop-a.held c.loop-a.work ys c.loop-a.invariant.1 (omega (arith, c.loop-a.invariant.0, c.requires.edges_under.1)) k).valid,
        c.loop-a-test.true,
      );
    }

pub loop-a-preserved : goal.loop-a-preserved
loop-a-preserved c =
    let a = c.args in (
      search rules,
      rw c.search_words-front.ensures (passed_next a.edges.now [] a.n a.e a.u c.time_of-d.result a.work.now c.loop-a.a c.loop-a.held c.loop-a.work c.offer_in-held.new.work
          c.loop-a.invariant.1 (omega (arith, c.loop-a.invariant.0, c.requires.edges_under.1)) (rw c.search_words-front.ensures at c.offer_in-held.auto.work) _ (rw c.search_words-front.ensures at c.offer_in-held.ensures) _
          (rw c.search_words-front.ensures at c.next_arc-a.ensures)),
    )

pub returns : goal.returns
returns c =
    let a = c.args in
    record {
      relaxed = rw (time_read a.n a.u a.work.now c.requires.holds.1 _ c.time_of-d.ensures.0)
          (passed_last a.edges.now [] a.n a.e a.u c.time_of-d.result a.work.now c.loop-a.held c.loop-a.work c.loop-a.a
          (omega (arith, c.loop-a-test.false)) c.loop-a.invariant.1);
      others = c.loop-a.invariant.1.others;
    }
