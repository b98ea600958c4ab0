-- `rows::same_table` meets its contract: the rows of the nodes from v on are left.
use Rattle.arcs.specs.Arcs.{arcs_in}
use Rattle.auditor.proofs.TableRows.{RowsLeft}
use Rattle.auditor.proofs.rows.same_table.Given as goal

abbrev pub invariant-loop-v : goal.invariant-loop-v
invariant-loop-v l = RowsLeft (arcs_in l.edges) l.n l.table l.initial.work l.v l.at l.work
