-- `toward::mark_back` meets its contract: the theory's state holds between the turns.
use Rattle.access.proofs.Fronts.{Marking}
use Rattle.arcs.specs.Arcs.{arcs_in}
use Rattle.access.proofs.toward.mark_back.Given as goal

abbrev pub invariant-loop-i : goal.invariant-loop-i
invariant-loop-i l = Marking (arcs_in l.edges) l.n l.e l.initial.work l.i l.work
