-- `node_broken` meets its contract.
use Rattle.std.proofs.Common.{arith}
use Rattle.std.proofs.lemmas.Bool.Decides.{nat_tests}
use Rattle.model.specs.Network.{node_broken}
use Rattle.rules.proofs.nodes.node_broken.Goals as goal

pub returns-then-node-gt-MAX_COORDINATE : goal.returns-then-node-gt-MAX_COORDINATE
unfolding node_broken
returns-then-node-gt-MAX_COORDINATE c = grind (arith, nat_tests)

pub returns-else-node-gt-MAX_COORDINATE : goal.returns-else-node-gt-MAX_COORDINATE
unfolding node_broken
returns-else-node-gt-MAX_COORDINATE c = grind (arith, nat_tests)
