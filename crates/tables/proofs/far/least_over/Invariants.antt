-- `far::least_over` meets its contract. The loop's invariant: the least so far and the entries from j on give the whole answer.
use Prim.Native.Nat.{◌≤◌}
use mathlib.Core.Path.{◌≡◌}
use Rattle.model.specs.Distance.{soonest}
use Rattle.model.specs.Oracle.{no_walk, access_list}
use Rattle.tables.specs.Premises.{InTwo, sum_in}
use Rattle.tables.proofs.Leasts.{least_left}
use Rattle.tables.proofs.far.least_over.Given as goal

abbrev pub invariant-loop-j : goal.invariant-loop-j
invariant-loop-j l = (soonest (sum_in l.row) (access_list l.access l.e) ≡ least_left (sum_in l.row) l.access l.e l.n l.least l.j) × InTwo l.least × (l.least ≤ no_walk)
