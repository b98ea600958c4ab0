-- `square::crosses_edge` meets its contract.
use native.Mathlib.Omega.{arith}
use Rattle.model.specs.Network.{node_count, edge_count}
use Rattle.crossing.proofs.Crossed.{crosses_read}
use Rattle.theory.specs.Sound.{edge_fine}
use Rattle.crossing.proofs.square.crosses_edge.Goals as goal

pub read-edge-requires : goal.read-edge-requires
unfolding edge_count
read-edge-requires c = omega arith

pub has-requires : goal.has-requires
unfolding node_count
has-requires c = omega (arith, (edge_fine _ _ c.requires.0 c.args.i c.requires.1).first_in, c.read-edge.ensures.first)

pub has-requires-2 : goal.has-requires-2
unfolding node_count
has-requires-2 c = omega (arith, (edge_fine _ _ c.requires.0 c.args.i c.requires.1).second_in, c.read-edge.ensures.second)

pub returns : goal.returns
returns c =
    let a = c.args in
    crosses_read a.nodes.now a.square _ _ _ _ _ c.read-edge.ensures.first.0 c.read-edge.ensures.second.0
    c.has.ensures c.has-2.ensures
