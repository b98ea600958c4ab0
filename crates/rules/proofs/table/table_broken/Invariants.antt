-- `rules::table::table_broken` meets its contract. The loop's invariant: the answer is that for the values from i on. Assumes nothing.
use Prim.Native.Nat.{◌-◌, ◌*◌, ◌≤◌}
use mathlib.Core.Path.{◌≡◌}
use lib.ListN.{length}
use Rattle.model.specs.Lists.{any}
use Rattle.model.specs.Oracle.{value_size, cell_broken, table_broken}
use Rattle.theory.specs.RangeLaws.{rest}
use Rattle.rules.proofs.table.table_broken.Given as goal

abbrev pub invariant-loop-i : goal.invariant-loop-i
invariant-loop-i l = (length l.b ≡ value_size * l.values) × (l.i ≤ l.values) × (table_broken l.transit l.b ≡ any (cell_broken l.b) (rest l.i l.values))

abbrev pub decreases-loop-i : goal.decreases-loop-i
decreases-loop-i l = l.values - l.i
