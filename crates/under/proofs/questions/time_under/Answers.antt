-- `questions::time_under` meets its contract.
use Rattle.reader.proofs.Kept.{none_broken, number_broken, some_rule}
use mathlib.Core.Path.{refl, ◌∙◌, sym}
use Rattle.sheet.specs.Sheet.{effects}
use Rattle.sheet.proofs.Forms.{kept_form}
use Rattle.under.proofs.Kept.{under_kept, as_time_under, time_refused, time_given}
use Rattle.under.proofs.questions.time_under.Goals as goal

pub returns-in-Err : goal.returns-in-Err
returns-in-Err c = record { result = time_refused _ _ _ _ _ _ (as_time_under _ _ _ _ _ c.requires _ (number_broken c.named_under_refusal.ensures c.in-Err.is c.number.ensures)) (some_rule c.in-Err.broken c.number.ensures); stays = record { opened = c.requires; rest = refl } }

pub line_body-requires : goal.line_body-requires
line_body-requires c = kept_form _ (under_kept _ _ _ _ (sym (none_broken c.named_under_refusal.ensures c.in_default.is))).form

pub time_under_of-requires : goal.time_under_of-requires
time_under_of-requires c =
    let k = under_kept _ _ _ _ (sym (none_broken c.named_under_refusal.ensures c.in_default.is)) in
    record { opened = (c.requires, k.pair.first, k.pair.second); quick_lines = rw c.line_body.ensures k.quick }

pub returns : goal.returns
unfolding effects
returns c =
    let e = as_time_under _ _ _ _ _ c.requires _ (none_broken c.named_under_refusal.ensures c.in_default.is) in
    record { result = (rw c.line_body.ensures at c.time_under_of.ensures.answer) ∙ time_given _ _ _ _ _ _ e refl; stays = c.time_under_of.ensures.stays }
