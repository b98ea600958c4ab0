-- `emit::copy::put` meets its contract. The loop's invariant: the first i bytes stand, and those from i on are left. Assumes nothing.
use lib.ListN.{length, drop}
use mathlib.Core.Path.{◌≡◌}
use Prim.Native.Nat.{◌+◌}
use Rattle.emit.proofs.Writing.{WrittenFrom}
use Rattle.emit.proofs.copy.put.Given as goal

abbrev pub invariant-loop-i : goal.invariant-loop-i
invariant-loop-i l = (l.n ≡ length l.bytes) × (length l.out ≡ length l.initial.out) × WrittenFrom l.initial.out l.at l.bytes (l.at + l.i) l.out (drop l.i l.bytes)
