-- `rows::with_entries` meets its contract.
use Rattle.model.specs.Query.{time_word}
use Rattle.block.specs.Block.{row_by}
use lib.ListN.{length, take, set}
use mathlib.Core.Path.{◌≡◌}
use Prim.Native.Nat.{◌≤◌}
use Rattle.block.proofs.rows.with_entries.Given as goal

abbrev pub invariant-loop-j : goal.invariant-loop-j
invariant-loop-j l = (l.j ≤ length l.ends) × (length l.initial.filled ≡ 12) × (l.filled ≡ set l.initial.filled l.i (row_by (time_word l.o) (take l.j l.ends) l.s))
