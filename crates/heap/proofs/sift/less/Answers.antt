-- `sift::less` meets its contract: a comparison as a number.
use Rattle.heap.proofs.SiftLaws.{less_is, less_small}
use Rattle.heap.proofs.sift.less.Goals as goal

pub returns : goal.returns
returns c = (rw (← c.is_sooner.ensures) (less_is c.is_sooner.result), less_small c.is_sooner.result)
