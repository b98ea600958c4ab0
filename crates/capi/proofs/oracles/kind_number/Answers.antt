-- `oracles::kind_number` meets its contract.
use Rattle.capi.specs.Replies.{kind_number}
use borrow.Author.Rules.{rules}
use Rattle.capi.proofs.oracles.kind_number.Goals as goal

pub returns-in-Far : goal.returns-in-Far
unfolding kind_number
returns-in-Far c = search rules

pub returns-in-Local : goal.returns-in-Local
unfolding kind_number
returns-in-Local c = search rules
