-- A reply is made from an answer as the definitions say.
use Rattle.capi.specs.Replies.{reply}
use Rattle.capi.proofs.oracles.ReplyFromAnswer.from.Goals as goal

pub returns-in-Time : goal.returns-in-Time
unfolding reply
returns-in-Time c = rw (c.kind_number.ensures, c.in-Time.is)

pub returns-in-None : goal.returns-in-None
unfolding reply
returns-in-None c = rw (c.kind_number-in-None.ensures, c.in-None.is)

pub returns-in-Refused : goal.returns-in-Refused
unfolding reply
returns-in-Refused c = rw c.in-Refused.is
