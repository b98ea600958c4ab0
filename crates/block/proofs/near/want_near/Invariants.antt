-- `near::want_near` meets its contract: s first, then end by end.
use Rattle.words.specs.Frames.{KeptFrom}
use Rattle.block.specs.Near.{wanted_in, Wants}
use Rattle.model.specs.Contents.{node_body}
use Rattle.model.specs.Network.{node_count}
use Rattle.opened.specs.Opened.{Opened}
use lib.ListN.{length}
use mathlib.Core.Path.{◌≡◌}
use Prim.Native.Nat.{◌≤◌}
use Rattle.words.specs.Regions.{grid_at}
use Rattle.block.proofs.near.want_near.Given as goal

abbrev pub invariant-loop-t : goal.invariant-loop-t
invariant-loop-t l = (l.t-index ≤ length l.ends) × Opened l.o l.work × Wants l.o l.s l.ends l.t-index l.left (wanted_in l.o l.work)
    × (length l.work ≡ length l.initial.work) × (KeptFrom (grid_at (node_count (node_body l.o))) l.initial.work l.work)
