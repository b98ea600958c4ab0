-- `roads::Roads::past_shut` meets its contract: the edges that are passed have no arc left.
use Rattle.arcs.specs.Leaving.{cursor_of, LeftAt, SkippedTo, arc_rank}
use Rattle.arcs.proofs.roads.Roads.past_shut.Given as goal

abbrev pub invariant-loop-b : goal.invariant-loop-b
invariant-loop-b l =
    SkippedTo l.self.edges.now l.self.lines.now l.self.n l.self.work.now l.u (cursor_of l.initial.b) (cursor_of l.b)
    × LeftAt l.self.edges.now l.self.lines.now l.self.n l.u (cursor_of l.b) l.b

abbrev pub decreases-loop-b : goal.decreases-loop-b
decreases-loop-b l = arc_rank l.self.edges.now l.b
