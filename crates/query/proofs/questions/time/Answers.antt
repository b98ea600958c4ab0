-- `questions::time` meets its contract.
use mathlib.Core.Path.{◌∙◌, sym, refl}
use Rattle.opened.proofs.OpenLaws.{stays}
use Rattle.reader.proofs.Kept.{none_broken, number_broken, some_rule}
use Rattle.checks.proofs.RulesKept.{pair_kept}
use Rattle.query.proofs.Results.{as_time, time_refused, time_given}
use Rattle.query.proofs.questions.time.Goals as goal

pub returns-in-Err : goal.returns-in-Err
returns-in-Err c =
    let e = number_broken c.named_pair_refusal.ensures c.in-Err.is c.number.ensures in
    record {
      result = time_refused _ _ _ _ _ (as_time _ _ _ _ c.requires _ e) (some_rule c.in-Err.broken c.number.ensures);
      opened = c.requires;
      rest = refl;
    }

pub time_of-requires : goal.time_of-requires
time_of-requires c =
    let k = pair_kept _ _ _ (sym (none_broken c.named_pair_refusal.ensures c.in_default.is)) in
    (c.requires, k.first, k.second)

pub returns : goal.returns
returns c =
    let e = none_broken c.named_pair_refusal.ensures c.in_default.is in
    let k = stays _ _ _ c.requires c.time_of.auto.work c.time_of.ensures.others in
    record { result = c.time_of.ensures.answer ∙ time_given _ _ _ _ 0 (as_time _ _ _ _ c.requires 0 e) refl; opened = k.opened; rest = k.rest }
