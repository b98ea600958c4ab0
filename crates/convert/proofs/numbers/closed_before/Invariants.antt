-- `numbers::closed_before` meets its contract: what is looked for stands neither below `low` nor from `high` on. Assumes nothing.
use Prim.Native.Nat.{◌/◌, ◌≤◌, ◌-◌}
use lib.ListN.{length}
use Rattle.model.specs.Bytes.{number_size, words16}
use Rattle.convert.proofs.Finding.{Between}
use Rattle.convert.proofs.numbers.closed_before.Given as goal

abbrev pub invariant-loop-low : goal.invariant-loop-low
invariant-loop-low l = (l.low ≤ l.high) × (l.high ≤ length l.closed / number_size) × Between (words16 l.closed) l.i l.low l.high

abbrev pub decreases-loop-low : goal.decreases-loop-low
decreases-loop-low l = l.high - l.low
