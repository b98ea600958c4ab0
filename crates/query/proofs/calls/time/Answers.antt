-- `calls::time` meets its contract.
use mathlib.Core.Path.{◌∙◌, sym, ap, refl}
use Rattle.model.specs.Query.{meaning}
use Rattle.opened.proofs.OpenLaws.{stays}
use Rattle.reader.proofs.Kept.{none_broken, number_broken, some_rule}
use Rattle.checks.proofs.RulesKept.{time_kept}
use Rattle.query.proofs.Results.{time_refused, time_given, time_unwritten, time_zeroed}
use Rattle.query.proofs.calls.time.Goals as goal

pub returns-in-Err : goal.returns-in-Err
returns-in-Err c =
    let e = number_broken c.time_refusal.ensures c.in-Err.is c.number.ensures in
    let n = some_rule c.in-Err.broken c.number.ensures in
    record { result = ap meaning (time_refused _ _ _ _ _ e n); words = time_unwritten _ _ _ _ _ e n }

pub open_words-requires : goal.open_words-requires
open_words-requires c =
    let k = time_kept _ _ _ _ (sym (none_broken c.time_refusal.ensures c.in_default.is)) in
    (k.pair.shape, k.enough)

pub time_of-answer-requires : goal.time_of-answer-requires
time_of-answer-requires c =
    let k = time_kept _ _ _ _ (sym (none_broken c.time_refusal.ensures c.in_default.is)) in
    (c.open_words.ensures.opened, k.pair.first, k.pair.second)

pub returns : goal.returns
returns c =
    let e = none_broken c.time_refusal.ensures c.in_default.is in
    let k = stays _ _ _ c.open_words.ensures.opened c.time_of-answer.auto.work c.time_of-answer.ensures.others in
    record {
      result = ap meaning (c.time_of-answer.ensures.answer ∙ time_given _ _ _ _ 0 e refl);
      words = c.zero_words.ensures ∙ time_zeroed _ _ _ _ 0 e _ refl (k.rest ∙ c.open_words.ensures.rest);
    }
