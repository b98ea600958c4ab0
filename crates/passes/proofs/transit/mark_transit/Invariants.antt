-- `transit::mark_transit` meets its contract: the nodes below u are passed.
use Prim.Native.Nat.{◌≤◌}
use mathlib.Core.Path.{◌≡◌}
use lib.ListN.{length}
use Rattle.words.specs.Frames.{KeptFrom}
use Rattle.passes.specs.Passed.{CellsPassed}
use Rattle.words.specs.Regions.{index_at}
use Rattle.passes.proofs.transit.mark_transit.Given as goal

abbrev pub invariant-loop-u : goal.invariant-loop-u
invariant-loop-u l = (l.u ≤ l.ground.n) × (length l.work ≡ length l.initial.work) × CellsPassed l.ground.nodes.now l.ground.edges.now l.ground.grid l.ground.n l.u l.work × (KeptFrom (index_at l.ground.n) l.initial.work l.work)
