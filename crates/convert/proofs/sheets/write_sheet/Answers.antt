-- `sheets::write_sheet` meets its contract. Assumes nothing.
use native.Mathlib.Omega.{arith}
use Rattle.convert.proofs.Renumbering.{sheet_written}
use Rattle.convert.proofs.sheets.write_sheet.Goals as goal

pub returns : goal.returns
returns c =
    let a = c.args in
    sheet_written a.closed.now a.lines.now a.left c.requires.closed_value.1 a.out.now (omega arith) c.put_head.ensures c.write_lines.ensures
