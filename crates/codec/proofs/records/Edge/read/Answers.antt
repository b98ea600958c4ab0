-- `Edge::read` meets its contract.
use Rattle.model.specs.Network.{edge}
use Rattle.codec.proofs.records.Edge.read.Goals as goal

pub returns-clause-first : goal.returns-clause-first
unfolding edge
returns-clause-first c = c.read16.ensures

pub returns-clause-second : goal.returns-clause-second
unfolding edge
returns-clause-second c = c.read16-2.ensures

pub returns-clause-seconds : goal.returns-clause-seconds
unfolding edge
returns-clause-seconds c = c.read32.ensures
