-- `leads::leads` meets its contract: none of the arcs passed leads on, and one that does decides it.
use mathlib.Core.List.{[]}
use Rattle.arcs.proofs.Tests.{Unmet}
use Rattle.marks.specs.Due.{leading}
use Rattle.words.specs.Regions.{times_in, marks_in}
use Rattle.arcs.specs.Leaving.{arc_rank}
use Rattle.marks.proofs.leads.leads.Given as goal

abbrev pub invariant-loop-a : goal.invariant-loop-a
invariant-loop-a l = Unmet (leading (times_in l.n l.work) (marks_in l.n l.work) l.v) l.edges [] l.n l.work l.v l.a

abbrev pub decreases-loop-a : goal.decreases-loop-a
decreases-loop-a l = arc_rank l.edges l.a
