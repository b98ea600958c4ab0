-- `lists::is_list` meets its contract.
use borrow.Author.Rules.{rules}
use Rattle.auditor.proofs.lists.is_list.Goals as goal

pub same_list-requires : goal.same_list-requires
same_list-requires c = (search rules, search rules, search rules, search rules, rw (c.region.ensures.0, c.region-2.ensures.0) c.requires.2)

pub returns : goal.returns
returns c = rw (c.region.ensures.0, c.region-2.ensures.0) at c.same_list.ensures
