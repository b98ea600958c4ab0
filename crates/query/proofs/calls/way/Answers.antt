-- `calls::way` meets its contract.
use mathlib.Core.Path.{◌∙◌, sym, refl}
use Rattle.opened.proofs.OpenLaws.{stays}
use Rattle.reader.proofs.Kept.{none_broken, number_broken, some_rule}
use Rattle.checks.proofs.RulesKept.{time_kept}
use Rattle.query.proofs.Results.{way_refused, way_given}
use Rattle.query.proofs.calls.way.Goals as goal

pub returns-in-Err : goal.returns-in-Err
returns-in-Err c =
    way_refused _ _ _ _ _ (number_broken c.time_refusal.ensures c.in-Err.is c.number.ensures) _ (some_rule c.in-Err.broken c.number.ensures)

pub open_words-requires : goal.open_words-requires
open_words-requires c =
    let k = time_kept _ _ _ _ (sym (none_broken c.time_refusal.ensures c.in_default.is)) in
    (k.pair.shape, k.enough)

pub way_of-route-requires : goal.way_of-route-requires
way_of-route-requires c =
    let k = time_kept _ _ _ _ (sym (none_broken c.time_refusal.ensures c.in_default.is)) in
    (c.open_words.ensures.opened, k.pair.first, k.pair.second)

pub returns : goal.returns
returns c =
    let answer = c.way_of-route in
    let e = none_broken c.time_refusal.ensures c.in_default.is in
    let k = stays _ _ _ c.open_words.ensures.opened answer.auto.work answer.ensures.others in
    way_given _ _ _ _ 0 e _ _ _ _ _ refl answer.ensures.given (k.rest ∙ c.open_words.ensures.rest) c.zero_words.ensures
