-- `far::far_key` meets its contract. The loop's invariant: the least so far and the entries from i on give the whole answer.
use Prim.Native.Nat.{◌≤◌}
use mathlib.Core.Path.{◌≡◌}
use Rattle.model.specs.Distance.{soonest}
use Rattle.model.specs.Oracle.{no_walk, access_list}
use Rattle.model.specs.Query.{sum_by, far_distance}
use Rattle.tables.proofs.Leasts.{least_left}
use Rattle.tables.proofs.far.far_key.Given as goal

abbrev pub invariant-loop-i : goal.invariant-loop-i
invariant-loop-i l = (far_distance l.table l.t (access_list l.access l.s) (access_list l.access l.e) ≡
    least_left (λ a. soonest (sum_by l.table l.t a) (access_list l.access l.e)) l.access l.s l.n l.least l.i) × (l.least ≤ no_walk)
