-- `sheets::line_left` meets its contract. Assumes nothing.
use native.Mathlib.Omega.{arith}
use mathlib.Core.Path.{sym, ◌∙◌}
use Rattle.convert.proofs.Renumbering.{line_long, line_empty}
use Rattle.convert.proofs.sheets.line_left.Goals as goal

pub returns-then-is_open : goal.returns-then-is_open
returns-then-is_open c = (line_long _ _ _ _ c.line_edge.ensures.0 (sym c.is_open.ensures ∙ c.if-is_open.true), omega arith)

pub returns : goal.returns
returns c = (line_empty _ _ _ _ c.line_edge.ensures.0 (sym c.is_open.ensures ∙ c.if-is_open.false), omega arith)
