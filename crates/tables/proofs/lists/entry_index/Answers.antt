-- `lists::entry_index` meets its contract.
use native.Mathlib.Omega.{arith}
use mathlib.Core.Path.{◌∙◌, ap}
use Rattle.model.specs.Bytes.{word16}
use Rattle.model.specs.Oracle.{access_entry}
use Rattle.tables.specs.Entries.{entry_within}
use Rattle.tables.proofs.lists.entry_index.Goals as goal

pub read16-requires : goal.read16-requires
read16-requires c = omega (arith, entry_within _ _ _ c.requires.0.1 _ c.requires.1)

pub returns : goal.returns
unfolding access_entry
returns c = c.read16.ensures.0 ∙ ap (word16 _) c.entry_at.ensures
