-- `positions::put_position` meets its contract: the low half stays.
use mathlib.Core.Path.{refl}
use Rattle.heap.specs.Words.{put_position}
use Rattle.heap.proofs.positions.put_position.Goals as goal

pub returns : goal.returns
unfolding put_position
returns c = refl
