-- `lists::same_lists` meets its contract: the nodes from u on are left, and testing cell by cell tests all lists.
use mathlib.Core.Path.{◌≡◌}
use lib.ListN.{length}
use Rattle.model.specs.Lists.{all, up_to}
use Rattle.theory.specs.RangeLaws.{rest}
use Rattle.words.specs.Regions.{region_at, transit}
use Rattle.words.specs.Frames.{KeptFrom}
use Rattle.auditor.specs.Same.{same_of_cell}
use Rattle.auditor.proofs.lists.same_lists.Given as goal

abbrev pub invariant-loop-u : goal.invariant-loop-u
invariant-loop-u l = (length l.work ≡ length l.initial.work) × (KeptFrom (region_at l.ground.n transit) l.initial.work l.work) ×
    (all (same_of_cell l.ground.nodes.now l.ground.edges.now l.ground.grid l.access) (up_to l.ground.n) ≡ all (same_of_cell l.ground.nodes.now l.ground.edges.now l.ground.grid l.access) (rest l.u l.ground.n))
