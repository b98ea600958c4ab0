-- `driven::drives` meets its contract: none of the arcs passed drives the step, and one that does decides it.
use Rattle.arcs.specs.Leaving.{arc_rank}
use Rattle.arcs.proofs.Tests.{Unmet}
use Rattle.way.specs.Distances.{distance_by}
use Rattle.way.proofs.Drives.{driving}
use Rattle.way.proofs.driven.drives.Given as goal

abbrev pub invariant-loop-a : goal.invariant-loop-a
invariant-loop-a l =
    Unmet (driving (distance_by l.roads) l.u l.v) l.roads.edges.now l.roads.lines.now l.roads.n l.roads.work.now l.u l.a

abbrev pub decreases-loop-a : goal.decreases-loop-a
decreases-loop-a l = arc_rank l.roads.edges.now l.a
