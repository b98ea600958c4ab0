-- `rows::row_at` meets its contract: the bytes at the position are the row, or it differs.
use mathlib.Core.Path.{sym, ◌∙◌}
use Rattle.auditor.proofs.RowBytes.{row_short, row_same, row_other}
use Rattle.auditor.proofs.rows.row_at.Goals as goal

pub returns-then-table-at : goal.returns-then-table-at
returns-then-table-at c =
    let a = c.args in row_short a.table.now a.at a.size _ _ c.requires.1 c.if-table-at.true

pub returns-then-is_row : goal.returns-then-is_row
returns-then-is_row c =
    let a = c.args in
    row_same a.table.now a.at a.size _ _ c.requires.1 (sym c.is_row.ensures ∙ c.if-is_row.true)

pub returns-else-is_row : goal.returns-else-is_row
returns-else-is_row c =
    let a = c.args in
    row_other a.table.now a.at a.size _ _ c.requires.1 (sym c.is_row.ensures ∙ c.if-is_row.false)
