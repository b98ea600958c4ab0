-- `form::sheet_broken` meets its contract: the form, then the lines.
use mathlib.Core.Path.{sym, ◌∙◌}
use Rattle.sheet.proofs.Forms.{by_form, by_lines}
use Rattle.sheet.proofs.form.sheet_broken.Goals as goal

pub returns-then-form_broken : goal.returns-then-form_broken
returns-then-form_broken c = by_form _ (sym c.form_broken.ensures ∙ c.if-form_broken.true)

pub returns : goal.returns
returns c = c.some_line_broken.ensures ∙ by_lines _ _ (sym c.form_broken.ensures ∙ c.if-form_broken.false) c.line_body.ensures
