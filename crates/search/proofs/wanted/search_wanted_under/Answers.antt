-- `wanted::search_wanted_under` meets its contract: between the rounds no more wanted nodes are lacking than are left to count.
use native.Mathlib.Omega.{arith}
use mathlib.Core.Logic.{inl, inr}
use mathlib.Core.Path.{refl, ◌∙◌}
use borrow.Author.Rules.{rules}
use Rattle.sheet.specs.ArcsUnder.{arcs_under}
use Rattle.arcs.proofs.Bodies.{arcs_bounded}
use Rattle.search.proofs.Wants.{wanting_begun, node_inside, turn, stop_wanted}
use Rattle.arcs.proofs.Kept.{edges_kept}
use Rattle.search.proofs.Turns.{standing_first, first}
use Rattle.search.proofs.wanted.search_wanted_under.Goals as goal
use Rattle.search.proofs.wanted.search_wanted_under.Goals.{then-loop-k-test+else-lacking-gt0, else-loop-k-test}

pub loop-k-init : goal.loop-k-init
loop-k-init c =
    let a = c.args in (
      refl,
      refl,
      wanting_begun (arcs_under a.edges.now a.lines.now) a.n a.s _ a.left a.work.now _ c.begin-k.ensures.others
          (first _ a.n a.s c.requires.n_le_max_nodes.0 c.requires.n_le_max_nodes.1 (arcs_bounded _ _ _ _ c.requires.edges_under) _ _ c.begin-k.ensures.holds c.begin-k.ensures.times c.begin-k.ensures.settled) c.begin-k.ensures.settled c.requires.n_le_max_nodes.3,
    )

pub round-k-requires : goal.round-k-requires
round-k-requires c =
    let a = c.args in
    record {
      holds = (
        c.loop-k.invariant.2.standing.holds,
        omega (arith, c.loop-k-test.true),
        standing_first (arcs_under a.edges.now a.lines.now) a.n a.s c.loop-k.k c.loop-k.e _ c.loop-k.invariant.2.standing,
      );
      edges_under = (
        edges_kept a.edges.now a.lines.now a.n a.work.now c.loop-k.work
            (c.loop-k.invariant.1 ∙ c.begin-k.ensures.others) c.requires.edges_under,
        search rules,
      );
    }

pub left_then-lacking-requires : goal.left_then-lacking-requires
left_then-lacking-requires c =
    let a = c.args in
    let h = c.loop-k.invariant.2.standing.holds.queue in (
      c.requires.n_le_max_nodes.0,
      omega (arith, h.held, h.room, c.loop-k-test.true),
      c.if-lacking-gt0.true,
      search rules,
      node_inside _ a.n a.s c.requires.n_le_max_nodes.0 c.requires.n_le_max_nodes.1 (arcs_bounded _ _ _ _ c.requires.edges_under) c.loop-k.k c.loop-k.e _ _ _ _ c.loop-k-test.true (c.round-k.ensures.others ∙ c.loop-k.invariant.1)
          c.loop-k.invariant.2 _ c.round-k.ensures.round,
    )

pub loop-k-preserved : goal.loop-k-preserved
loop-k-preserved c =
    let a = c.args in (
      search rules,
      c.round-k.ensures.others ∙ c.loop-k.invariant.1,
      turn _ a.n a.s c.requires.n_le_max_nodes.0 c.requires.n_le_max_nodes.1 (arcs_bounded _ _ _ _ c.requires.edges_under) c.loop-k.k c.loop-k.e _ _ _ _
          c.loop-k-test.true (c.round-k.ensures.others ∙ c.loop-k.invariant.1) c.loop-k.invariant.2 _ c.round-k.ensures.round _ c.left_then-lacking.ensures,
    )

pub returns : goal.returns
returns c =
    let a = c.args in
    let b = c.begin-k.ensures.others in record {
      found = stop_wanted _ a.n a.s c.requires.n_le_max_nodes.0 c.requires.n_le_max_nodes.1 (arcs_bounded _ _ _ _ c.requires.edges_under) c.loop-k.k c.loop-k.e _ a.work.now _ b _ c.loop-k.invariant.2
          (elim c.loop-k-test.branch [ then-loop-k-test+else-lacking-gt0 w ↦ inr (omega arith) | else-loop-k-test w ↦ inl (omega arith) ]) _ c.finish.ensures.times c.finish.ensures.order;
      others = c.finish.ensures.others ∙ (c.loop-k.invariant.1 ∙ b);
    }
