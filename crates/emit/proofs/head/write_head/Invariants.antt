-- `emit::head::write_head` meets its contract. The loop's invariant: what stands before entry k is written, and the entries from k on are left; the sizes that
-- are left fit the offset. Assumes nothing.
use Rattle.model.specs.Lists.{total}
use Rattle.emit.proofs.Writing.{Written}
use Rattle.emit.specs.Parts.{head_bytes, entries_of}
use Rattle.model.specs.Contents.{entry_at}
use lib.ListN.{length, drop}
use mathlib.Core.Path.{◌≡◌}
use Prim.Native.Nat.{◌+◌, ◌<◌, ◌≤◌}
use Rattle.emit.proofs.head.write_head.Given as goal

abbrev pub invariant-loop-k : goal.invariant-loop-k
invariant-loop-k l = (l.k ≤ l.entries) × (l.entries ≡ length l.sizes) × (l.offset + total (drop l.k l.sizes) < 4294967296) × (length l.out ≡ entry_at l.entries) × Written
    (head_bytes l.edition l.sizes) (entry_at l.k) l.out (entries_of l.k l.offset (drop l.k l.sizes))
