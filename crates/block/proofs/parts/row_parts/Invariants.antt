-- `parts::row_parts` meets its contract: square by square.
use Prim.Native.Nat.{◌≤◌}
use mathlib.Core.Path.{◌≡◌}
use mathlib.Core.List.{map}
use lib.ListN.{length, take}
use Rattle.block.specs.Block.{max_names, twelve}
use Rattle.block.specs.Parts.{is_hops, part_of}
use Rattle.block.proofs.parts.row_parts.Given as goal

abbrev pub invariant-loop-j : goal.invariant-loop-j
invariant-loop-j l = (l.j ≤ max_names) × (length l.row ≡ max_names) × (l.parts ≡ twelve 0 (map (part_of (is_hops l.part)) (take l.j l.row)))
