-- `lists::same_in_cell` meets its contract: the nodes from v on are left.
use mathlib.Core.Path.{◌≡◌}
use Rattle.model.specs.Lists.{all, up_to}
use Rattle.theory.specs.RangeLaws.{rest}
use Rattle.auditor.specs.Same.{same_beside}
use Rattle.auditor.proofs.Behind.{KeptSets}
use Rattle.auditor.proofs.lists.same_in_cell.Given as goal

abbrev pub invariant-loop-v : goal.invariant-loop-v
invariant-loop-v l = KeptSets l.ground.n l.initial.work l.work × (all (same_beside l.ground.nodes.now l.ground.edges.now l.ground.grid l.access l.u) (up_to l.ground.n) ≡ all (same_beside l.ground.nodes.now l.ground.edges.now l.ground.grid l.access l.u) (rest l.v l.ground.n))
