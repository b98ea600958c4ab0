-- `legs::leg_count` meets its contract.
use mathlib.Core.Path.{refl}
use Rattle.wages.specs.Wages.{leg_count}
use Rattle.wages.proofs.legs.leg_count.Goals as goal

pub returns : goal.returns
unfolding leg_count
returns c = refl
