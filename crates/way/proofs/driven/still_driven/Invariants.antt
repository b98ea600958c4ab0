-- `driven::still_driven` meets its contract: the check stands at a node of the way, at its end, or at a broken step.
use mathlib.Core.List.{[]}
use lib.ListN.{get_or}
use Rattle.sheet.specs.Under.{still_driven}
use Rattle.sheet.specs.ArcsUnder.{arcs_under}
use Rattle.words.specs.Regions.{times_in}
use Rattle.way.specs.Distances.{distance_by, arcs_by, nodes_in}
use Rattle.way.proofs.Drives.{StillAt}
use Rattle.way.proofs.driven.still_driven.Given as goal

abbrev pub invariant-loop-v : goal.invariant-loop-v
invariant-loop-v l =
    let r = l.roads in
    StillAt (still_driven (distance_by r) (arcs_by r) (nodes_in r.edges.now [] r.n r.work.now l.s)) (times_in r.n r.work.now) (arcs_under r.edges.now [])
    (arcs_by r) r.n l.u

abbrev pub decreases-loop-v : goal.decreases-loop-v
decreases-loop-v l = get_or (times_in l.roads.n l.roads.work.now) l.u 0
