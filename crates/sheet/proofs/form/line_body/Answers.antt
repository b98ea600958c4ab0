-- `form::line_body` meets its contract: the part behind the contents.
use native.Mathlib.Omega.{arith}
use mathlib.Core.Path.{sym}
use Rattle.sheet.proofs.Forms.{has_body}
use Rattle.sheet.proofs.form.line_body.Goals as goal

pub slice_bounds-result-count : goal.slice_bounds-result-count
slice_bounds-result-count c = omega (arith, (has_body c.args.sheet.now c.requires).0)

pub slice_bounds-result-start : goal.slice_bounds-result-start
slice_bounds-result-start c = omega (arith, (has_body c.args.sheet.now c.requires).0)

pub returns : goal.returns
returns c = sym (has_body c.args.sheet.now c.requires).1
