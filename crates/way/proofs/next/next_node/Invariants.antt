-- `next::next_node` meets its contract: the lowest over the arcs passed, which at the end are those that leave the node.
use Rattle.way.proofs.Nexts.{Lowered}
use Rattle.way.specs.Distances.{distance_by}
use Rattle.arcs.specs.Leaving.{arc_rank}
use Rattle.way.proofs.next.next_node.Given as goal

abbrev pub invariant-loop-a : goal.invariant-loop-a
invariant-loop-a l = Lowered (distance_by l.roads) l.u l.roads.edges.now l.roads.lines.now l.roads.n l.roads.work.now l.roads.n l.a l.r

abbrev pub decreases-loop-a : goal.decreases-loop-a
decreases-loop-a l = arc_rank l.roads.edges.now l.a
