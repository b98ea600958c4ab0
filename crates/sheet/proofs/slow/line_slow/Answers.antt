-- `slow::line_slow` meets its contract: the edge over the limit by the line, and over the limit by what holds.
use native.Mathlib.Omega.{arith}
use mathlib.Core.Path.{sym, ◌∙◌}
use Rattle.sheet.specs.Sheet.{line, line_count, lines_in, holds}
use Rattle.sheet.proofs.SlowLines.{by_held, not_over}
use Rattle.sheet.proofs.slow.line_slow.Goals as goal

pub line_edge-i-requires : goal.line_edge-i-requires
unfolding line_count
line_edge-i-requires c = omega arith

pub line_effect-x-requires : goal.line_effect-x-requires
unfolding line_count
line_effect-x-requires c = omega arith

pub returns : goal.returns
returns c =
    let a = c.args in
    c.over-2.ensures ∙ by_held (holds (lines_in a.lines.now)) a.edges.now (line a.lines.now a.k) _ _ c.line_edge-i.ensures.0
    c.line_effect-x.ensures _ (sym c.over.ensures ∙ c.if-not-over.false) c.effect_on-held.ensures

pub returns-then-not-over : goal.returns-then-not-over
returns-then-not-over c =
    let a = c.args in
    not_over (holds (lines_in a.lines.now)) a.edges.now (line a.lines.now a.k) _ _ c.line_edge-i.ensures.0 c.line_effect-x.ensures
    (sym c.over.ensures ∙ c.if-not-over.true)
