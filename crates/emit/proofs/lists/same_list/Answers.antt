-- `emit::lists::same_list` meets its contract. Assumes nothing.
use Rattle.emit.proofs.Comparing.{matched_all, matched_none}
use Rattle.emit.proofs.lists.same_list.Goals as goal

pub returns-then-list : goal.returns-then-list
returns-then-list c = matched_all c.list.ensures c.if-list.true

pub returns-else-list : goal.returns-else-list
returns-else-list c = matched_none c.list.ensures c.if-list.false
