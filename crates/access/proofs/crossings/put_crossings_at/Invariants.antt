-- `crossings::put_crossings_at` meets its contract: the crossing nodes of the edges passed are put in, and at the cursor's end those are all at v.
use mathlib.Core.Path.{◌≡◌}
use lib.ListN.{length}
use Rattle.model.specs.Network.{edge_count}
use Rattle.access.proofs.Squares.{Walked}
use Rattle.arcs.specs.Cursor.{rank}
use Rattle.access.proofs.crossings.put_crossings_at.Given as goal

abbrev pub invariant-loop-c : goal.invariant-loop-c
invariant-loop-c l = (l.m ≡ edge_count l.edges) × (length l.work ≡ length l.initial.work)
    × Walked l.nodes l.edges l.square l.n l.k l.v l.initial.work l.c l.work

abbrev pub decreases-loop-c : goal.decreases-loop-c
decreases-loop-c l = rank l.edges l.c
