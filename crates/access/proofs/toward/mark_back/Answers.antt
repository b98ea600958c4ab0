-- `toward::mark_back` meets its contract: the theory's state holds between the turns.
use native.Mathlib.Omega.{arith}
use borrow.Author.Rules.{rules}
use Rattle.access.proofs.Fronts.{first, node_in, next, last}
use Rattle.arcs.proofs.Bodies.{arcs_positive}
use Rattle.words.proofs.Stays.{only_then}
use Rattle.index.proofs.Laid.{roads_only}
use Rattle.access.proofs.toward.mark_back.Goals as goal

pub loop-i-init : goal.loop-i-init
loop-i-init c =
    let a = c.args in
    first _ a.n a.e _ c.requires.n_le_max_nodes.4 (search rules) a.work.now (search rules) c.clear.ensures.others
    c.clear.ensures.members
    c.requires.n_le_max_nodes.3

pub mark_at-requires : goal.mark_at-requires
mark_at-requires c =
    let a = c.args in
    let k = c.clear.auto.work in record {
      n_le_max_nodes = (search rules, search rules, omega (arith, c.loop-i.invariant.size, k), node_in _ _ _ _ c.requires.n_le_max_nodes.4 (omega (arith, k)) c.loop-i.i c.loop-i.work c.loop-i.invariant (search rules));
      indexed_edges = roads_only a.edges.now a.n a.work.now c.loop-i.work _ _ (omega arith)
          (only_then _ _ a.work.now _ c.loop-i.work c.clear.ensures.others c.loop-i.invariant.others) c.requires.indexed_edges;
    }

pub loop-i-preserved : goal.loop-i-preserved
loop-i-preserved c =
    let a = c.args in
    next _ _ _ _ c.requires.n_le_max_nodes.4 (omega (arith, c.clear.auto.work)) c.loop-i.i c.loop-i.work c.loop-i.invariant
    (search rules) (arcs_positive a.n a.edges.now c.requires.indexed_edges.ends) _ (search rules) c.mark_at.ensures.others
    c.mark_at.ensures.members

pub returns : goal.returns
returns c =
    let a = c.args in
    let all = last _ _ _ _ c.requires.n_le_max_nodes.4 (omega (arith, c.clear.auto.work)) c.loop-i.i a.work.now c.loop-i.work (search rules) c.clear.ensures.others c.loop-i.invariant in record { members = all.0; others = all.1 }
