use Rattle.model.specs.Network.{node_count}
use mathlib.Core.Path.{ap}
use Rattle.reader.proofs.oracle.node_count.Goals as goal

pub returns : goal.returns
unfolding node_count
returns c = ap node_count c.oracle_body.ensures
