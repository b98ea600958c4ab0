-- `Node::read` meets its contract.
use Rattle.model.specs.Network.{coordinate, node}
use Rattle.std.proofs.Common.{ap, ◌∙◌}
use Rattle.codec.proofs.records.Node.read.Goals as goal

pub returns-clause-x : goal.returns-clause-x
unfolding node
returns-clause-x c = c.shifted.ensures ∙ ap coordinate c.read32.ensures

pub returns-clause-y : goal.returns-clause-y
unfolding node
returns-clause-y c = c.shifted-2.ensures ∙ ap coordinate c.read32-2.ensures
