-- `calls::time_under` meets its contract.
use Rattle.reader.proofs.Kept.{none_broken, number_broken, some_rule}
use mathlib.Core.Path.{◌∙◌, sym, ap, refl}
use Rattle.sheet.specs.Sheet.{effects}
use Rattle.sheet.proofs.Forms.{kept_form}
use Rattle.model.specs.Query.{meaning}
use Rattle.under.proofs.Kept.{time_under_kept, time_refused, time_given, time_unwritten, time_zeroed}
use Rattle.under.proofs.calls.time_under.Goals as goal

pub returns-in-Err : goal.returns-in-Err
returns-in-Err c = record { result = ap meaning (time_refused _ _ _ _ _ _ (number_broken c.time_under_refusal.ensures c.in-Err.is c.number.ensures) (some_rule c.in-Err.broken c.number.ensures)); words = time_unwritten _ _ _ _ _ _ (number_broken c.time_under_refusal.ensures c.in-Err.is c.number.ensures) (some_rule c.in-Err.broken c.number.ensures) }

pub open_words-requires : goal.open_words-requires
open_words-requires c =
    let k = time_under_kept _ _ _ _ _ (sym (none_broken c.time_under_refusal.ensures c.in_default.is)) in
    (k.under.pair.shape, k.enough)

pub line_body-requires : goal.line_body-requires
line_body-requires c = kept_form _
    (time_under_kept _ _ _ _ _
    (sym (none_broken c.time_under_refusal.ensures c.in_default.is))).under.form

pub time_under_of-answer-requires : goal.time_under_of-answer-requires
time_under_of-answer-requires c =
    let k = (time_under_kept _ _ _ _ _
    (sym (none_broken c.time_under_refusal.ensures c.in_default.is))).under in
    record { opened = (c.open_words.ensures.opened, k.pair.first, k.pair.second); quick_lines = rw c.line_body.ensures k.quick }

pub returns : goal.returns
unfolding effects
returns c = record {
  result = ap meaning ((rw c.line_body.ensures at c.time_under_of-answer.ensures.answer) ∙ time_given _ _ _ _ _ _ (none_broken c.time_under_refusal.ensures c.in_default.is) refl);
  words = c.zero_words.ensures ∙ time_zeroed _ _ _ _ _ _ (none_broken c.time_under_refusal.ensures c.in_default.is) _ refl
      (c.time_under_of-answer.ensures.stays.rest ∙ c.open_words.ensures.rest);
}
