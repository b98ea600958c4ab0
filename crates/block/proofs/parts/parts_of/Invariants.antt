-- `parts::parts_of` meets its contract: row by row.
use Prim.Native.Nat.{◌≤◌}
use mathlib.Core.Path.{◌≡◌}
use mathlib.Core.List.{map}
use lib.ListN.{length, take}
use Rattle.block.specs.Block.{max_names, twelve, unused_row}
use Rattle.block.specs.Parts.{is_hops, part_of}
use Rattle.block.proofs.parts.parts_of.Given as goal

abbrev pub invariant-loop-i : goal.invariant-loop-i
invariant-loop-i l = (l.i ≤ max_names) × (length l.keys ≡ max_names) × (l.parts ≡ twelve unused_row (map (map (part_of (is_hops l.part))) (take l.i l.keys)))
