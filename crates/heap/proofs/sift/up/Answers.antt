-- `sift::up` meets its contract: after 12 levels the node stands at the root.
use Rattle.std.proofs.Common.{arith}
use Rattle.heap.proofs.LevelLaws.{level_top}
use Rattle.heap.proofs.SiftLaws.{rises_turn, rises_end}
use Rattle.heap.proofs.sift.up.Goals as goal

pub sift-requires-clause-begins : goal.sift-requires-clause-begins
sift-requires-clause-begins c =
    let h = c.requires in
    (h.0, h.1, (h.2, level_top c.args.n c.args.from h.0.few (omega arith)), h.3)

pub sift-requires-clause-turns : goal.sift-requires-clause-turns
sift-requires-clause-turns c = rises_turn c.args.k

pub sift-requires-clause-ends : goal.sift-requires-clause-ends
sift-requires-clause-ends c = rises_end c.args.k
