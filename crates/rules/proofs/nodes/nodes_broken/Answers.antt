-- `nodes_broken` meets its contract.
use Rattle.std.proofs.Common.{arith}
use Rattle.std.proofs.lemmas.Bool.Decides.{nat_tests}
use Rattle.model.specs.Network.{node_count, nodes_broken}
use Rattle.rules.proofs.nodes.nodes_broken.Goals as goal

pub returns-then-n-lt-MIN_NODES : goal.returns-then-n-lt-MIN_NODES
unfolding nodes_broken node_count
returns-then-n-lt-MIN_NODES c = grind (arith, nat_tests)

pub returns-else-n-lt-MIN_NODES : goal.returns-else-n-lt-MIN_NODES
unfolding nodes_broken node_count
returns-else-n-lt-MIN_NODES c = grind (arith, nat_tests)
