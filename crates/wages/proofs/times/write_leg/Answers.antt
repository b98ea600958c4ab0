-- `times::write_leg` meets its contract.
use mathlib.Core.Path.{◌∙◌, ap}
use Rattle.wages.specs.Tallies.{tallied}
use Rattle.wages.proofs.times.write_leg.Goals as goal

pub returns : goal.returns
returns c = record { tally = c.with.ensures ∙ ap (tallied _) c.leg_time-time.ensures.time; bytes = c.write32.ensures ∙ rw c.leg_time-time.ensures.time; others = c.leg_time-time.ensures.others }
