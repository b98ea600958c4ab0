-- `questions::way_under` meets its contract.
use Rattle.reader.proofs.Kept.{none_broken, number_broken, some_rule}
use mathlib.Core.Path.{refl, sym}
use Rattle.sheet.specs.Sheet.{effects}
use Rattle.sheet.proofs.Forms.{kept_form}
use Rattle.under.proofs.Kept.{under_kept, as_time_under, way_refused, way_given}
use Rattle.under.proofs.questions.way_under.Goals as goal

pub returns-in-Err : goal.returns-in-Err
returns-in-Err c =
    let k = way_refused _ _ _ _ _ _ (as_time_under _ _ _ _ _ c.requires _ (number_broken c.named_under_refusal.ensures c.in-Err.is c.number.ensures)) _ (some_rule c.in-Err.broken c.number.ensures) in
    record { result = k.result; bytes = k.bytes; stays = record { opened = c.requires; rest = refl } }

pub line_body-requires : goal.line_body-requires
line_body-requires c = kept_form _ (under_kept _ _ _ _ (sym (none_broken c.named_under_refusal.ensures c.in_default.is))).form

pub way_under_of-requires : goal.way_under_of-requires
way_under_of-requires c =
    let k = under_kept _ _ _ _ (sym (none_broken c.named_under_refusal.ensures c.in_default.is)) in record {
      opened = (c.requires, k.pair.first, k.pair.second);
      quick_lines = rw
          c.line_body.ensures k.quick;
    }

pub returns : goal.returns
unfolding effects
returns c =
    let a = c.args in
    let e = as_time_under _ _ _ _ _ c.requires _ (none_broken c.named_under_refusal.ensures c.in_default.is) in
    let k = way_given _ _ _ _ _ _ e _ refl _ a.work.now _ _
    (rw c.line_body.ensures at c.way_under_of.ensures.given) refl refl in
    record { result = k.result; bytes = k.bytes; stays = c.way_under_of.ensures.stays }
