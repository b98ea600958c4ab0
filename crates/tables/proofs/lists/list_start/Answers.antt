-- `lists::list_start` meets its contract.
use Rattle.tables.specs.Entries.{start_within}
use Rattle.tables.proofs.lists.list_start.Goals as goal

pub list_start-requires : goal.list_start-requires
list_start-requires c = start_within _ _ _ c.requires.1

pub returns : goal.returns
returns c = c.list_start.ensures
