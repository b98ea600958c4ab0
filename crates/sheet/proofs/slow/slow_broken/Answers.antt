-- `slow::slow_broken` meets its contract: what `any` answers of the lines.
use Rattle.std.proofs.Common.{rules}
use Rattle.std.proofs.iter.runs.Sources.{ranges}
use Rattle.std.proofs.lemmas.Iterator.{serves_from_Range}
use mathlib.Core.Path.{sym, ◌∙◌}
use Rattle.codec.proofs.AnyRange.{any_run}
use Rattle.sheet.specs.Sheet.{line, line_count, lines_in, holds}
use Rattle.sheet.specs.Slow.{line_slow}
use Rattle.sheet.proofs.SlowLines.{slow_lines, names_edge}
use Rattle.sheet.proofs.slow.slow_broken.Goals as goal

pub any-requires-clause-callable : goal.any-requires-clause-callable
unfolding line_count
any-requires-clause-callable c =
    let a = c.args in
    serves_from_Range (λ x q h. search rules)
    (λ u s h. let inside = names_edge a.edges.now a.lines.now c.requires.quick c.requires.lines_value u h in search (rules, inside))

pub returns : goal.returns
unfolding lines_in line_count
returns c =
    let a = c.args in
    any_run (line_slow (holds (lines_in a.lines.now)) a.edges.now) (line a.lines.now) _ _ (λ t. search (rules, ranges))
    (λ t xs i h e. search (rules, ranges))
    ∙ sym (slow_lines a.edges.now a.lines.now c.requires.quick c.requires.lines_value)
