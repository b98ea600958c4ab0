-- `relax::relax_plain` meets its contract: the arcs that the walk has passed are relaxed, and at its end those are all.
use mathlib.Core.Path.{◌≡◌}
use mathlib.Core.List.{[]}
use lib.ListN.{length}
use Rattle.search.proofs.Relaxes.{RelaxedArcs}
use Rattle.arcs.specs.Leaving.{arc_rank}
use Rattle.search.proofs.relax.relax_plain.Given as goal

abbrev pub invariant-loop-a : goal.invariant-loop-a
invariant-loop-a l = (length l.work ≡ length l.initial.work) × RelaxedArcs l.edges [] l.n l.e l.u l.d l.initial.work l.a l.work l.held

abbrev pub decreases-loop-a : goal.decreases-loop-a
decreases-loop-a l = arc_rank l.edges l.a
