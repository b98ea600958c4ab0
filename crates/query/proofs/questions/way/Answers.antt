-- `questions::way` meets its contract.
use mathlib.Core.Path.{sym, refl}
use Rattle.opened.proofs.OpenLaws.{stays}
use Rattle.reader.proofs.Kept.{none_broken, number_broken, some_rule}
use Rattle.checks.proofs.RulesKept.{pair_kept}
use Rattle.query.proofs.Results.{as_time, way_refused, way_given}
use Rattle.query.proofs.questions.way.Goals as goal

pub returns-in-Err : goal.returns-in-Err
returns-in-Err c =
    let e = number_broken c.named_pair_refusal.ensures c.in-Err.is c.number.ensures in
    let k = way_refused _ _ _ _ _ (as_time _ _ _ _ c.requires _ e) _ (some_rule c.in-Err.broken c.number.ensures) in
    record { result = k.result; bytes = k.bytes; opened = c.requires; rest = refl }

pub way_of-requires : goal.way_of-requires
way_of-requires c =
    let k = pair_kept _ _ _ (sym (none_broken c.named_pair_refusal.ensures c.in_default.is)) in
    (c.requires, k.first, k.second)

pub returns : goal.returns
returns c =
    let a = c.args in
    let answer = c.way_of in
    let e = none_broken c.named_pair_refusal.ensures c.in_default.is in
    let m = stays _ _ _ c.requires answer.auto.work answer.ensures.others in
    let k = way_given _ _ _ _ 0 (as_time _ _ _ _ c.requires 0 e) _ _ a.work.now _ _ refl answer.ensures.given refl refl in
    record { result = k.result; bytes = k.bytes; opened = m.opened; rest = m.rest }
