-- `front::search_front_under` meets its contract: the theory's state holds between the rounds, and e falls with each.
use native.Mathlib.Omega.{arith}
use mathlib.Core.Path.{refl, ◌∙◌}
use borrow.Author.Rules.{rules}
use Rattle.sheet.specs.ArcsUnder.{arcs_under}
use Rattle.arcs.proofs.Bodies.{arcs_bounded}
use Rattle.arcs.proofs.Kept.{edges_kept}
use Rattle.search.proofs.Turns.{standing_first, first, next, last}
use Rattle.search.proofs.front.search_front_under.Goals as goal

pub loop-k-init : goal.loop-k-init
loop-k-init c =
    let a = c.args in
    (refl, refl, first _ a.n a.s c.requires.n_le_max_nodes.0 c.requires.n_le_max_nodes.1 (arcs_bounded _ _ _ _ c.requires.edges_under) _ _ c.begin-k.ensures.holds c.begin-k.ensures.times c.begin-k.ensures.settled)

pub round-k-requires : goal.round-k-requires
round-k-requires c =
    let a = c.args in
    record {
      holds = (
        c.loop-k.invariant.2.holds,
        omega (arith, c.loop-k-test.true),
        standing_first (arcs_under a.edges.now a.lines.now) a.n a.s c.loop-k.k c.loop-k.e _
            c.loop-k.invariant.2,
      );
      edges_under = (
        edges_kept a.edges.now a.lines.now a.n a.work.now c.loop-k.work
            (c.loop-k.invariant.1 ∙ c.begin-k.ensures.others) c.requires.edges_under,
        search rules,
      );
    }

pub loop-k-preserved : goal.loop-k-preserved
loop-k-preserved c =
    let a = c.args in (
      search rules,
      c.round-k.ensures.others ∙ c.loop-k.invariant.1,
      next _ a.n a.s c.requires.n_le_max_nodes.0 c.requires.n_le_max_nodes.1 (arcs_bounded _ _ _ _ c.requires.edges_under)
          c.loop-k.k c.loop-k.e _ c.loop-k.invariant.2 _ _ c.round-k.ensures.round,
    )

pub returns : goal.returns
returns c =
    let a = c.args in
    record {
      found = last _ a.n a.s c.requires.n_le_max_nodes.0 c.requires.n_le_max_nodes.1 (arcs_bounded _ _ _ _ c.requires.edges_under) c.loop-k.k c.loop-k.e _ c.loop-k.invariant.2
          (omega (arith, c.loop-k-test.false)) _ c.finish.ensures.times c.finish.ensures.order;
      others = c.finish.ensures.others ∙ (c.loop-k.invariant.1 ∙ c.begin-k.ensures.others);
    }
