-- `halves::strip` meets its contract: after i turns the first i words are stripped and the others as they were.
use Rattle.std.proofs.Common.{◌<◌, length, arith}
use Rattle.heap.specs.Words.{low}
use Rattle.heap.proofs.FillLaws.{change_more}
use Rattle.heap.proofs.halves.strip.Goals as goal

pub loop-x-preserved : goal.loop-x-preserved
unfolding low
loop-x-preserved c =
    let h : c.loop-x.x-index < length c.args.s.now = omega arith in
    rw c.loop-x.invariant (change_more low _ _ h)
