-- `relax::relax_under` meets its contract: what is left of the edges passed is relaxed, and at the end those are all.
use mathlib.Core.Path.{◌≡◌}
use lib.ListN.{length}
use Rattle.arcs.specs.Cursor.{rank}
use Rattle.search.proofs.Edges.{RelaxedEdges}
use Rattle.search.proofs.relax.relax_under.Given as goal

abbrev pub invariant-loop-c : goal.invariant-loop-c
invariant-loop-c l = (length l.work ≡ length l.initial.work) × RelaxedEdges l.edges l.lines l.n l.e l.u l.d l.initial.work l.c l.work l.held

abbrev pub decreases-loop-c : goal.decreases-loop-c
decreases-loop-c l = rank l.edges l.c
