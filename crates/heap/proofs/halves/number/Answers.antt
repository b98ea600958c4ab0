-- `halves::number` meets its contract: after i turns the first i words are written and the others as they were.
use Rattle.std.proofs.Common.{◌<◌, length, refl, arith}
use Rattle.model.specs.Lists.{range}
use Rattle.heap.specs.Words.{own}
use Rattle.heap.proofs.FillLaws.{number_more}
use Rattle.heap.proofs.halves.number.Goals as goal

pub loop-i-init : goal.loop-i-init
unfolding range
loop-i-init c = refl

pub loop-i-preserved : goal.loop-i-preserved
unfolding own
loop-i-preserved c =
    let h : c.loop-i.i < length c.args.s.now = omega arith in
    rw c.loop-i.invariant (number_more own _ _ h)
