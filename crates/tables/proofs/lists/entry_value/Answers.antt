-- `lists::entry_value` meets its contract: rule 10 has the value in range.
use native.Mathlib.Omega.{arith}
use Rattle.model.specs.Oracle.{access_entry}
use Rattle.tables.specs.Entries.{entry_within, value_in_range}
use Rattle.tables.proofs.lists.entry_value.Goals as goal

pub overflow_add-entry_at : goal.overflow_add-entry_at
overflow_add-entry_at c = omega (arith, entry_within _ _ _ c.requires.0.1 _ c.requires.1)

pub read_value-requires : goal.read_value-requires
read_value-requires c = omega (arith, entry_within _ _ _ c.requires.0.1 _ c.requires.1)

pub returns : goal.returns
unfolding access_entry
returns c =
    let e = rw c.entry_at.ensures at c.read_value.ensures.0 in
    (e, value_in_range _ _ _ c.requires.0.1 _ c.requires.1 _ e)
