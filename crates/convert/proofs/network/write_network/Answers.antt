-- `network::write_network` meets its contract. Assumes nothing.
use Rattle.convert.proofs.Results.{network_written}
use Rattle.convert.proofs.network.write_network.Goals as goal

pub returns : goal.returns
returns c =
    let a = c.args in
    network_written a.nodes.now a.edges.now a.closed.now a.left c.requires.old_bodies.1 a.out.now c.requires.left_in_bounds.0
    c.put_head.ensures c.put-at.ensures c.write_edges.ensures
