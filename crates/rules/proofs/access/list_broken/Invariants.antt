-- `rules::access::list_broken` meets its contract. Assumes nothing.
use Rattle.rules.proofs.AccessEntries.{entries_left}
use Rattle.model.specs.Oracle.{list_size, list_start, list_broken}
use lib.ListN.{length}
use mathlib.Core.Path.{◌≡◌}
use Prim.Native.Nat.{◌+◌, ◌≤◌}
use Rattle.rules.proofs.access.list_broken.Given as goal

abbrev pub invariant-loop-i : goal.invariant-loop-i
invariant-loop-i l = (l.start ≡ list_start l.b l.u) × (l.start + list_size l.count ≤ length l.b) × (list_broken l.transit l.b l.u ≡ entries_left l.transit l.b l.u l.least l.i l.count)
