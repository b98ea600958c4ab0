-- `far::answer_of` meets its contract.
use Rattle.model.specs.Query.{answer}
use Rattle.tables.proofs.Values.{decoded_no_walk, a_time}
use Rattle.tables.proofs.far.answer_of.Goals as goal

pub returns-then-k-eq-NO_WALK : goal.returns-then-k-eq-NO_WALK
unfolding answer
returns-then-k-eq-NO_WALK c = rw (decoded_no_walk _ c.if-k-eq-NO_WALK.true)

pub returns : goal.returns
unfolding answer
returns c = rw (a_time _ c.if-k-eq-NO_WALK.false, ← c.seconds_of-seconds.ensures, ← c.hops_of-hops.ensures.0)
