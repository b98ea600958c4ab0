-- `calls::build_of` meets its contract.
use mathlib.Core.Path.{sym, ◌∙◌, ap}
use native.Mathlib.Omega.{arith}
use Rattle.model.specs.Network.{node_count}
use Rattle.model.specs.Rules.{words_needed}
use Rattle.builder.specs.Laid.{Laid}
use Rattle.builder.proofs.Planning.{pass_requires}
use Rattle.builder.proofs.calls.build_of.Goals as goal

pub network_contents-c-requires : goal.network_contents-c-requires
network_contents-c-requires c = (c.requires.0.contents, c.requires.0.bodies)

pub body-nodes-requires : goal.body-nodes-requires
body-nodes-requires c = c.network_contents-c.ensures _ (omega arith)

pub body-edges-requires : goal.body-edges-requires
body-edges-requires c = c.network_contents-c.ensures _ (omega arith)

pub over-grid-requires : goal.over-grid-requires
over-grid-requires c = rw c.body-nodes.ensures c.requires.0.sound.nodes_rule

pub node_count-n-requires : goal.node_count-n-requires
node_count-n-requires c = (c.requires.0.contents, c.requires.0.bodies)

pub invariant_of-ground : goal.invariant_of-ground
unfolding words_needed
invariant_of-ground c =
    let a = c.args in
    let l : Laid a.network.now a.dv c.body-nodes.result.now c.body-edges.result.now c.over-grid.result c.node_count-n.result = record {
      passed = c.requires.0;
      of_nodes = c.body-nodes.ensures;
      of_edges = c.body-edges.ensures;
      made = c.over-grid.ensures;
      count = c.node_count-n.ensures ∙ sym (ap node_count c.body-nodes.ensures);
    } in
    let p = pass_requires _ _ _ _ _ _ l a.work.now (omega (arith, c.node_count-n.ensures, c.requires.1)) in
    record { keeps = (p.0, p.1, p.2) }

pub build_in-requires : goal.build_in-requires
unfolding words_needed
build_in-requires c = (
  record { passed = c.requires.0; of_nodes = c.body-nodes.ensures; of_edges = c.body-edges.ensures; made = c.over-grid.ensures; count = c.node_count-n.ensures ∙ sym (ap node_count c.body-nodes.ensures) },
  omega (arith, c.node_count-n.ensures, c.requires.1),
)

pub returns : goal.returns
unfolding words_needed
returns c = record { given = c.build_in.ensures.given; rest = rw (← c.node_count-n.ensures) c.build_in.ensures.rest }
