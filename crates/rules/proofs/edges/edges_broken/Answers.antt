-- `edges_broken` meets its contract.
use mathlib.Core.Path.{ap}
use mathlib.Core.Bool.{not}
use borrow.Author.Tests.{eq-eqb, ne_eqb}
use Rattle.model.specs.Network.{edge_count, edges_broken}
use Rattle.rules.proofs.Flags.{or_first, or_second}
use Rattle.rules.proofs.edges.edges_broken.Goals as goal

pub returns-then-b-ne0 : goal.returns-then-b-ne0
unfolding edges_broken edge_count
returns-then-b-ne0 c = or_first _ (ap not (ne_eqb _ _ c.if-b-ne0.true))

pub returns-else-b-ne0 : goal.returns-else-b-ne0
unfolding edges_broken edge_count
returns-else-b-ne0 c = or_second _ (ap not (eq-eqb _ _ c.if-b-ne0.false))
