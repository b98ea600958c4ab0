-- `front::search_front_under` meets its contract: the theory's state holds between the rounds, and e falls with each.
use mathlib.Core.Path.{◌≡◌}
use lib.ListN.{length}
use Rattle.sheet.specs.ArcsUnder.{arcs_under}
use Rattle.words.specs.Frames.{KeptFrom}
use Rattle.search.proofs.Turns.{Standing}
use Rattle.words.specs.Regions.{front_in, search_words}
use Rattle.search.proofs.front.search_front_under.Given as goal

abbrev pub invariant-loop-k : goal.invariant-loop-k
invariant-loop-k l = (length l.work ≡ length l.initial.work) × (KeptFrom (search_words l.n) l.initial.work l.work)
    × Standing (arcs_under l.edges l.lines) l.n l.s l.k l.e (front_in l.n l.work)

abbrev pub decreases-loop-k : goal.decreases-loop-k
decreases-loop-k l = l.e
