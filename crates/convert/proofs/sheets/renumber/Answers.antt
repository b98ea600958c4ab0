-- `sheets::renumber` meets its contract. Assumes nothing.
use native.Mathlib.Omega.{arith}
use Rattle.convert.proofs.Renumbering.{length_sheet}
use Rattle.convert.proofs.Results.{given_short, given_whole}
use Rattle.convert.proofs.sheets.renumber.Goals as goal

pub returns-then-out-size : goal.returns-then-out-size
returns-then-out-size c =
    let a = c.args in
    given_short _ _ _ (omega (arith, c.lines_left-left.ensures.0, length_sheet a.closed.now a.lines.now)) c.if-out-size.true

pub returns : goal.returns
returns c =
    let a = c.args in
    given_whole _ _ _ (omega (arith, c.lines_left-left.ensures.0, length_sheet a.closed.now a.lines.now)) c.if-out-size.false c.write_sheet.ensures
