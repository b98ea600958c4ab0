-- `calls::way_under` meets its contract.
use Rattle.reader.proofs.Kept.{none_broken, number_broken, some_rule}
use mathlib.Core.Path.{◌∙◌, sym, refl}
use Rattle.sheet.specs.Sheet.{effects}
use Rattle.sheet.proofs.Forms.{kept_form}
use Rattle.under.proofs.Kept.{time_under_kept, way_refused, way_given}
use Rattle.under.proofs.calls.way_under.Goals as goal

pub returns-in-Err : goal.returns-in-Err
returns-in-Err c = way_refused _ _ _ _ _ _ (number_broken c.time_under_refusal.ensures c.in-Err.is c.number.ensures) _ (some_rule c.in-Err.broken c.number.ensures)

pub open_words-requires : goal.open_words-requires
open_words-requires c =
    let k = time_under_kept _ _ _ _ _ (sym (none_broken c.time_under_refusal.ensures c.in_default.is)) in
    (k.under.pair.shape, k.enough)

pub line_body-requires : goal.line_body-requires
line_body-requires c = kept_form _
    (time_under_kept _ _ _ _ _
    (sym (none_broken c.time_under_refusal.ensures c.in_default.is))).under.form

pub way_under_of-route-requires : goal.way_under_of-route-requires
way_under_of-route-requires c =
    let k = (time_under_kept _ _ _ _ _
    (sym (none_broken c.time_under_refusal.ensures c.in_default.is))).under in record {
      opened = (c.open_words.ensures.opened, k.pair.first, k.pair.second);
      quick_lines = rw c.line_body.ensures
          k.quick;
    }

pub returns : goal.returns
unfolding effects
returns c =
    let q = c.open_words.ensures.rest in
    way_given _ _ _ _ _ _ (none_broken c.time_under_refusal.ensures c.in_default.is) _ refl _ _ _ _ (rw c.line_body.ensures at c.way_under_of-route.ensures.given) (c.way_under_of-route.ensures.stays.rest ∙ q) c.zero_words.ensures
