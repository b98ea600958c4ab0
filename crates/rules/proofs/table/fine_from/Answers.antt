-- `rules::table::fine_from` meets its contract. Assumes nothing.
use native.Mathlib.Omega.{arith}
use mathlib.Core.Path.{sym, ◌∙◌}
use Rattle.model.specs.Oracle.{cell_broken}
use Rattle.rules.proofs.TableLaws.{one_fine}
use Rattle.rules.proofs.table.fine_from.Goals as goal

pub returns-then-not-four_exceed : goal.returns-then-not-four_exceed
returns-then-not-four_exceed c = (omega arith, omega arith, c.four_exceed.ensures c.if-not-four_exceed.true)

pub returns-then-value_broken : goal.returns-then-value_broken
unfolding cell_broken
returns-then-value_broken c = sym c.value_broken.ensures ∙ c.if-value_broken.true

pub returns-else-value_broken : goal.returns-else-value_broken
returns-else-value_broken c = (omega arith, omega arith, one_fine _ _ (sym c.value_broken.ensures ∙ c.if-value_broken.false))
