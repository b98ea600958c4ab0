-- `sift::down` meets its contract: after 12 levels nothing stands below.
use Rattle.std.proofs.Common.{arith}
use Rattle.heap.proofs.LevelLaws.{level_first}
use Rattle.heap.proofs.SiftLaws.{sinks_turn, sinks_end}
use Rattle.heap.proofs.sift.down.Goals as goal

pub sift-requires-clause-begins : goal.sift-requires-clause-begins
sift-requires-clause-begins c =
    let h = c.requires in
    (h.0, h.1, (omega arith, level_first 0), h.2)

pub sift-requires-clause-turns : goal.sift-requires-clause-turns
sift-requires-clause-turns c = sinks_turn c.args.k

pub sift-requires-clause-ends : goal.sift-requires-clause-ends
sift-requires-clause-ends c = λ i key. sinks_end c.args.k i key (omega (arith, c.requires.0.few))
