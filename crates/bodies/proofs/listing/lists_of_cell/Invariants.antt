-- `bodies::listing::lists_of_cell` meets its contract. Assumes nothing.
use mathlib.Core.Path.{◌≡◌}
use lib.ListN.{length}
use Rattle.bodies.proofs.CellLists.{Working}
use Rattle.bodies.specs.Listed.{ListedTo}
use Rattle.bodies.proofs.listing.lists_of_cell.Given as goal

abbrev pub invariant-loop-v : goal.invariant-loop-v
invariant-loop-v l = (length l.body ≡ length l.initial.body) × Working l.ground.nodes.now l.ground.edges.now l.ground.grid l.ground.n l.u l.left l.initial.work l.work × ListedTo l.ground.nodes.now l.ground.edges.now l.ground.grid l.ground.n l.u l.v l.body
