-- `far::least_from` meets its contract: rule 10 has the index below T, and so the row in the table.
use Prim.Native.Nat.{◌*◌, ◌<◌, ◌≤◌}
use native.Mathlib.Omega.{arith}
use mathlib.Core.Path.{◌∙◌, ap}
use lib.ListN.{length}
use borrow.Author.Rules.{rules}
use Rattle.model.specs.Oracle.{value_size, decoded}
use Rattle.model.specs.Distance.{plus}
use Rattle.tables.specs.Entries.{index_below}
use Rattle.tables.proofs.Rows.{row_within, row_kept, row_sums}
use Rattle.tables.proofs.Values.{at_most, three_tells}
use Rattle.tables.proofs.far.least_from.Goals as goal
use Rattle.tables.proofs.far.least_from.Goals.{After-entry_index}

-- The index is that of a transit node, and so its row stands in the table.
below : (c : After-entry_index) → c.entry_index.result < c.args.t
below c = omega (arith, c.entry_index.ensures, index_below _ _ _ c.requires.0 _ c.requires.1)

within : (c : After-entry_index) → value_size * (c.entry_index.result * c.args.t) ≤ length c.args.table.now
within c = row_within _ _ _ c.requires.3 (below c)

pub overflow_mul-row : goal.overflow_mul-row
overflow_mul-row c = omega (arith, within c)

pub overflow_mul-row-2 : goal.overflow_mul-row-2
overflow_mul-row-2 c = omega (arith, within c)

pub slice_bounds-least_over-count : goal.slice_bounds-least_over-count
slice_bounds-least_over-count c = within c

pub slice_bounds-least_over-start : goal.slice_bounds-least_over-start
slice_bounds-least_over-start c = search (rules, within c)

pub least_over-requires : goal.least_over-requires
least_over-requires c =
    (c.args.t, c.requires.2, row_kept _ _ _ c.requires.3 (below (goal.at.least_over-requires c).After-entry_index))

pub overflow_add-result : goal.overflow_add-result
overflow_add-result c = omega (arith, at_most _ c.entry_value-value.ensures.1, c.least_over.ensures.2)

pub returns : goal.returns
returns c = three_tells _ _ c.entry_value-value.ensures.1 c.least_over.ensures.1 ∙ (ap (plus (decoded _)) c.least_over.ensures.0 ∙ row_sums _ _ _ _ _ _ c.entry_index.ensures c.entry_value-value.ensures.0)
