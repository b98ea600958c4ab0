-- `gather::gather` meets its contract: gathered is from the starts below p.
use Rattle.access.proofs.Gathers.{Gathering}
use Rattle.arcs.specs.Arcs.{arcs_in}
use Rattle.access.proofs.gather.gather.Given as goal

abbrev pub invariant-loop-p : goal.invariant-loop-p
invariant-loop-p l = Gathering (arcs_in l.edges) l.n l.initial.work l.p l.work
