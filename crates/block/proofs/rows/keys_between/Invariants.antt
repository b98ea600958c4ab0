-- `rows::keys_between` meets its contract: start by start, and the oracle stays opened.
use Rattle.model.specs.Query.{time_word}
use Rattle.words.specs.Frames.{KeptFrom}
use Rattle.block.specs.Block.{block_by}
use Rattle.model.specs.Contents.{node_body}
use Rattle.model.specs.Network.{node_count}
use lib.ListN.{length, take}
use mathlib.Core.Path.{◌≡◌}
use Prim.Native.Nat.{◌≤◌}
use Rattle.words.specs.Regions.{grid_at}
use Rattle.block.proofs.rows.keys_between.Given as goal

abbrev pub invariant-loop-i : goal.invariant-loop-i
invariant-loop-i l = (l.i ≤ length l.starts) × (l.keys ≡ block_by (time_word l.o) (take l.i l.starts) l.ends) × (length l.work ≡ length l.initial.work) ×
    (KeptFrom (grid_at (node_count (node_body l.o))) l.initial.work l.work)
