-- `counts::count` meets its contract. The loop's invariant: `members` counts those below v. Assumes nothing.
use Rattle.bitset.specs.Members.{members_of}
use lib.ListN.{length}
use mathlib.Core.Path.{◌≡◌}
use Prim.Native.Nat.{◌≤◌}
use Rattle.bitset.proofs.counts.count.Given as goal

abbrev pub invariant-loop-v : goal.invariant-loop-v
invariant-loop-v l = (l.members ≤ l.v) × (l.members ≡ length (members_of l.v l.set))
