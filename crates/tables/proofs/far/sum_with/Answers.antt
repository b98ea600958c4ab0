-- `far::sum_with` meets its contract: rule 10 has the column in the row.
use native.Mathlib.Omega.{arith}
use mathlib.Core.Path.{◌∙◌, ap}
use Rattle.model.specs.Oracle.{value, access_entry}
use Rattle.tables.specs.Premises.{summed, sum_in}
use Rattle.tables.specs.Entries.{entry_within, index_below, key_in_range}
use Rattle.tables.proofs.Values.{two-tells, two_most}
use Rattle.tables.proofs.far.sum_with.Goals as goal

pub overflow_add-at : goal.overflow_add-at
overflow_add-at c = omega (arith, entry_within _ _ _ c.requires.0.1 _ c.requires.1)

pub overflow_mul-column : goal.overflow_mul-column
overflow_mul-column c = omega (arith, c.requires.0.2.within _ (index_below _ _ _ c.requires.0.1 _ c.requires.1))

pub sum-requires : goal.sum-requires
sum-requires c =
    let within = c.requires.0.2.within _ (index_below _ _ _ c.requires.0.1 _ c.requires.1) in
    rw (c.entry_index-column.ensures, c.entry_at-at.ensures) (within, omega (arith, entry_within _ _ _ c.requires.0.1 _ c.requires.1))

pub returns : goal.returns
unfolding sum_in access_entry value
returns c =
    let column = c.requires.0.2.range _ (index_below _ _ _ c.requires.0.1 _ c.requires.1) in
    let entry = key_in_range _ _ _ c.requires.0.1 _ c.requires.1 in
    let e = rw (c.entry_index-column.ensures, c.entry_at-at.ensures) at c.sum.ensures in
    (ap summed e ∙ two-tells _ _ column entry, rw e (two_most _ _ column entry))
