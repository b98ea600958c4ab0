-- `lines::effect_on` meets its contract: all lines.
use mathlib.Core.Path.{refl, ◌∙◌, ap}
use mathlib.Core.List.{List}
use Rattle.sheet.specs.Sheet.{Line, line_count, holds}
use Rattle.sheet.proofs.Effects.{lines_all}
use borrow.Author.Rules.{rules}
use Rattle.sheet.proofs.lines.effect_on.Goals as goal

pub effect_among-requires : goal.effect_among-requires
unfolding line_count
effect_among-requires c = search rules

pub returns : goal.returns
unfolding line_count
returns c =
    let a = c.args in
    c.effect_among.ensures ∙ ap (λ (l : List Line). holds l a.i) (lines_all a.lines.now _ refl)
