-- `rules::table::value_broken` meets its contract. Assumes nothing.
use mathlib.Core.Path.{sym, ◌∙◌}
use Rattle.rules.proofs.TableLaws.{time_fine, other_test}
use Rattle.rules.proofs.table.value_broken.Goals as goal

pub returns-then-exceeds : goal.returns-then-exceeds
returns-then-exceeds c = other_test _ _ _ (sym c.exceeds.ensures ∙ c.if-exceeds.true) c.read_value.ensures.0

pub returns-else-exceeds : goal.returns-else-exceeds
returns-else-exceeds c = c.if-exceeds.false ∙ sym (time_fine _ _ (sym c.exceeds.ensures ∙ c.if-exceeds.false))
