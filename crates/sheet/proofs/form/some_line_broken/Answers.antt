-- `form::some_line_broken` meets its contract: what `any` answers.
use Rattle.std.proofs.Common.{rules}
use Rattle.std.proofs.iter.runs.Sources.{ranges}
use Rattle.codec.proofs.AnyRange.{any_run}
use Rattle.sheet.specs.Sheet.{line, line_count, lines_in, line_broken}
use Rattle.sheet.proofs.form.some_line_broken.Goals as goal

pub returns : goal.returns
unfolding lines_in line_count
returns c = any_run line_broken (line c.args.lines.now) _ _ (λ t. search (rules, ranges)) (λ t xs i h e. search (rules, ranges))
