-- `questions::wages` meets its contract: rules 12, 17 and 15 alone are left, and the oracle stays opened.
use Rattle.reader.proofs.Kept.{none_broken, number_broken, some_rule}
use mathlib.Core.Path.{refl, sym}
use Rattle.opened.proofs.OpenLaws.{stays}
use Rattle.wages.specs.Kept.{legs_kept}
use Rattle.wages.proofs.Results.{wages_refused, wages_given, as_open}
use Rattle.wages.proofs.questions.wages.Goals as goal

pub returns-in-Err : goal.returns-in-Err
returns-in-Err c =
    let r = wages_refused _ _ _ _ (as_open _ _ _ c.requires _ (number_broken c.named_legs_refusal.ensures c.in-Err.is c.number.ensures)) _ (some_rule c.in-Err.broken c.number.ensures) in
    record { result = r.result; bytes = r.bytes; stays = record { opened = c.requires; rest = refl } }

pub wages_of-requires : goal.wages_of-requires
wages_of-requires c = (c.requires, legs_kept _ _ (sym (none_broken c.named_legs_refusal.ensures c.in_default.is)))

pub returns : goal.returns
returns c =
    let k = stays _ _ _ c.requires c.wages_of.auto.work c.wages_of.ensures.others in
    let r = wages_given _ _ _ _ (as_open _ _ _ c.requires _ (none_broken c.named_legs_refusal.ensures c.in_default.is)) _ refl _ _ _ _ c.wages_of.ensures.given refl refl in
    record { result = r.result; bytes = r.bytes; stays = k }
