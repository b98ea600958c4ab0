-- `wanted::search_wanted_under` meets its contract: between the rounds no more wanted nodes are lacking than are left to count.
use mathlib.Core.Path.{◌≡◌}
use lib.ListN.{length}
use Rattle.sheet.specs.ArcsUnder.{arcs_under}
use Rattle.words.specs.Frames.{KeptFrom}
use Rattle.search.proofs.Wants.{Wanting}
use Rattle.words.specs.Regions.{front_in, want_in, search_words}
use Rattle.search.proofs.wanted.search_wanted_under.Given as goal

abbrev pub invariant-loop-k : goal.invariant-loop-k
invariant-loop-k l = (length l.work ≡ length l.initial.work) × (KeptFrom (search_words l.n) l.initial.work l.work)
    × Wanting (arcs_under l.edges l.lines) l.n l.s l.k l.e l.lacking (want_in l.n l.initial.work) (front_in l.n l.work)

abbrev pub decreases-loop-k : goal.decreases-loop-k
decreases-loop-k l = l.e
