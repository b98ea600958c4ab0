-- `builder::network::node_count` meets its contract. Assumes nothing.
use mathlib.Core.Path.{ap}
use Rattle.model.specs.Network.{node_count}
use Rattle.builder.proofs.network.node_count.Goals as goal

pub returns : goal.returns
unfolding node_count
returns c = ap node_count c.network_body.ensures
