-- `refusals::lines_refusal` meets its contract. Assumes nothing.
use native.Mathlib.Omega.{arith}
use mathlib.Core.Path.{sym, ◌∙◌, refl}
use Rattle.model.specs.Contents.{network_edition, network_entries}
use Rattle.theory.specs.Joined.{whole_contents}
use Rattle.rules.specs.declared.refusal.Refusal.TheVariants.{Sheet}
use Rattle.reader.proofs.Kept.{none_broken, rule_kept}
use Rattle.sheet.proofs.Forms.{kept_form}
use Rattle.convert.proofs.Passing.{old_passed}
use Rattle.convert.proofs.refusals.lines_refusal.Goals as goal

pub body_of-requires : goal.body_of-requires
body_of-requires c =
    let k = old_passed _ _ (none_broken c.old_refusal.ensures c.in_ok-old_refusal.was) refl in
    (omega arith, omega arith, whole_contents network_edition network_entries _ k.contents, k.bodies)

pub line_body-requires : goal.line_body-requires
line_body-requires c = kept_form _ (sym c.sheet_broken.ensures ∙ rule_kept Sheet (none_broken c.broken_if.ensures c.in_ok-broken_if.was))
