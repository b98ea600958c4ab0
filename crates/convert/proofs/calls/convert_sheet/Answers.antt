-- `calls::convert_sheet` meets its contract. Assumes nothing.
use native.Mathlib.Omega.{arith}
use Rattle.theory.specs.Joined.{whole_contents}
use Rattle.model.specs.Contents.{network_edition, network_entries}
use Rattle.sheet.proofs.Forms.{kept_form}
use mathlib.Core.Path.{refl}
use Rattle.reader.proofs.Kept.{none_broken, number_broken, some_rule}
use Rattle.convert.proofs.Passing.{sheet_refused, lines_passed, closed_passed, sheet_given, lines_small}
use Rattle.convert.proofs.calls.convert_sheet.Goals as goal

pub returns-in-Err : goal.returns-in-Err
returns-in-Err c = sheet_refused _ _ _ (number_broken c.lines_refusal.ensures c.in-Err.is c.number.ensures) (some_rule c.in-Err.broken c.number.ensures) _

pub body_of-requires : goal.body_of-requires
body_of-requires c =
    let k = (lines_passed _ _ _ (none_broken c.lines_refusal.ensures c.in_default.is) refl).0 in
    (omega arith, omega arith, whole_contents network_edition network_entries _ k.contents, k.bodies)

pub line_body-requires : goal.line_body-requires
line_body-requires c = kept_form _ (lines_passed _ _ _ (none_broken c.lines_refusal.ensures c.in_default.is) refl).1

pub renumber-requires : goal.renumber-requires
renumber-requires c =
    let rises = closed_passed _ _ _ (none_broken c.lines_refusal.ensures c.in_default.is) refl _ _ c.body_of.ensures c.line_body.ensures in
    (rises, lines_small _ (λ i. omega (arith, c.shared_slice_known-2-1.given i)) c.line_body.ensures)

pub returns : goal.returns
returns c = sheet_given _ _ _ (none_broken c.lines_refusal.ensures c.in_default.is) refl _ _ c.body_of.ensures c.line_body.ensures _ _ _ c.renumber.ensures
