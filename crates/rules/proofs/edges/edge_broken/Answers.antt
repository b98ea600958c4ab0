-- `edge_broken` meets its contract.
use Rattle.std.proofs.Common.{arith}
use Rattle.std.proofs.lemmas.Bool.Decides.{nat_tests}
use Rattle.model.specs.Network.{edge_broken}
use Rattle.rules.proofs.edges.edge_broken.Goals as goal

pub returns-then-edge : goal.returns-then-edge
unfolding edge_broken
returns-then-edge c = grind (arith, nat_tests)

pub returns-else-edge : goal.returns-else-edge
unfolding edge_broken
returns-else-edge c = grind (arith, nat_tests)
