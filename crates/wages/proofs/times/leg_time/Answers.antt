-- `times::leg_time` meets its contract.
use mathlib.Core.Path.{◌∙◌}
use Rattle.wages.specs.Wages.{leg_time}
use Rattle.wages.proofs.times.leg_time.Goals as goal

pub seconds_between-requires : goal.seconds_between-requires
seconds_between-requires c = (c.requires.0, rw c.read-leg.ensures.0 (c.requires.1.start _ c.requires.2), rw c.read-leg.ensures.1 (c.requires.1.end _ c.requires.2))

pub returns : goal.returns
unfolding leg_time
returns c = record { time = c.seconds_between.ensures.seconds ∙ rw (c.read-leg.ensures.0, c.read-leg.ensures.1); others = c.seconds_between.ensures.others }
