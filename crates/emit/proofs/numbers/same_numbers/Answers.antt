-- `emit::numbers::same_numbers` meets its contract. Assumes nothing.
use Rattle.emit.proofs.Comparing.{matched_all, matched_none}
use Rattle.emit.proofs.numbers.same_numbers.Goals as goal

pub returns-then-numbers : goal.returns-then-numbers
returns-then-numbers c = matched_all c.numbers.ensures c.if-numbers.true

pub returns-else-numbers : goal.returns-else-numbers
returns-else-numbers c = matched_none c.numbers.ensures c.if-numbers.false
