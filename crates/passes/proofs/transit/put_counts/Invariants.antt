-- `transit::put_counts` meets its contract: the nodes below v have their counts.
use Rattle.crossing.specs.Cells.{same_cell}
use Rattle.crossing.specs.Ground.{cells_in}
use Rattle.passes.proofs.Counting.{Counting}
use Rattle.passes.proofs.transit.put_counts.Given as goal

abbrev pub invariant-loop-v : goal.invariant-loop-v
invariant-loop-v l = Counting (same_cell (cells_in l.ground.grid l.ground.nodes.now) l.u) l.ground.n l.k l.initial.work l.v l.work
