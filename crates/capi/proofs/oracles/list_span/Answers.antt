-- `oracles::list_span` meets its contract.
use mathlib.Core.Path.{◌∙◌}
use Rattle.model.specs.Contents.{entry_at}
use Rattle.capi.proofs.Spans.{long, start_within, place}
use native.Mathlib.Omega.{arith}
use Rattle.tables.specs.Oracles.{has_list}
use Rattle.theory.specs.Passed.{all_shaped}
use Rattle.capi.proofs.oracles.list_span.Goals as goal

pub list_part-size-requires : goal.list_part-size-requires
list_part-size-requires c = rw c.oracle_body-access.ensures (_, has_list _ (all_shaped _ c.requires.0) _ c.requires.1)

pub overflow_add-entry_at : goal.overflow_add-entry_at
unfolding entry_at
overflow_add-entry_at c = omega (arith, c.entry_at.ensures)

pub read32-requires : goal.read32-requires
unfolding entry_at
read32-requires c = omega (arith, c.entry_at.ensures, long _ (all_shaped _ c.requires.0))

pub list_start-requires : goal.list_start-requires
list_start-requires c = rw c.oracle_body-access.ensures (
  _,
  has_list _ (all_shaped _ c.requires.0) _
      c.requires.1,
)

pub overflow_add-start : goal.overflow_add-start
overflow_add-start c = omega (
  arith,
  start_within _ (all_shaped _ c.requires.0) _ c.requires.1 _
      c.oracle_body-access.ensures _ c.list_start.ensures,
)

pub returns : goal.returns
unfolding entry_at
returns c = place _ (all_shaped _ c.requires.0) _ c.requires.1 _
    c.oracle_body-access.ensures _ c.list_start.ensures _ _ (c.read32.ensures
    ∙ rw c.entry_at.ensures) c.list_part-size.ensures
