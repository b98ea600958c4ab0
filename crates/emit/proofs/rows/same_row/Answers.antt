-- `emit::rows::same_row` meets its contract. Assumes nothing.
use Rattle.emit.proofs.Comparing.{matched_all, matched_none}
use Rattle.emit.proofs.rows.same_row.Goals as goal

pub returns-then-row : goal.returns-then-row
returns-then-row c = matched_all c.row.ensures c.if-row.true

pub returns-else-row : goal.returns-else-row
returns-else-row c = matched_none c.row.ensures c.if-row.false
