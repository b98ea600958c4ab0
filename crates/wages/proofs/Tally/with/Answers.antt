-- `Tally::with` meets its contract.
use borrow.Author.Tests.{eq-eqb, ne_eqb}
use Rattle.wages.specs.Wages.{is_marked}
use Rattle.wages.specs.Tallies.{tallied}
use Rattle.wages.proofs.Tally.with.Goals as goal

pub returns-then-time-eq-NO_SECONDS : goal.returns-then-time-eq-NO_SECONDS
unfolding tallied is_marked
returns-then-time-eq-NO_SECONDS c = rw (eq-eqb _ _ c.if-time-eq-NO_SECONDS.true)

pub returns-else-time-eq-NO_SECONDS : goal.returns-else-time-eq-NO_SECONDS
unfolding tallied is_marked
returns-else-time-eq-NO_SECONDS c = rw (ne_eqb _ _ c.if-time-eq-NO_SECONDS.false)
