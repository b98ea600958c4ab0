-- `bodies::listing::put_lists` meets its contract. Assumes nothing.
use mathlib.Core.Path.{◌≡◌}
use lib.ListN.{length}
use Rattle.words.specs.Regions.{region_at, transit}
use Rattle.words.specs.Frames.{KeptFrom}
use Rattle.bodies.specs.Listed.{Based, Listed}
use Rattle.bodies.proofs.listing.put_lists.Given as goal

abbrev pub invariant-loop-u : goal.invariant-loop-u
invariant-loop-u l = (length l.work ≡ length l.initial.work) × (length l.body ≡ length l.initial.body) × Based l.ground.nodes.now l.ground.edges.now l.ground.grid l.ground.n l.work ×
    (KeptFrom (region_at l.ground.n transit) l.initial.work l.work) × Listed l.ground.nodes.now l.ground.edges.now l.ground.grid l.ground.n l.u l.body
