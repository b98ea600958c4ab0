-- `names::names_broken` meets its contract.
use borrow.Author.Tests.{eq-eqb}
use mathlib.Core.Path.{sym, ◌∙◌}
use Rattle.block.proofs.Named.{no_names, many_names}
use Rattle.block.proofs.names.names_broken.Goals as goal

pub returns-then-names-eq0 : goal.returns-then-names-eq0
returns-then-names-eq0 c = eq-eqb _ 0 c.if-names-eq0.true ∙ sym (no_names _ c.if-names-eq0.true)

pub returns-else-names-eq0 : goal.returns-else-names-eq0
returns-else-names-eq0 c = sym (many_names _ c.if-names-eq0.false)
