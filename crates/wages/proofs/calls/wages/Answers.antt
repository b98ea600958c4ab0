-- `calls::wages` meets its contract.
use Rattle.reader.proofs.Kept.{none_broken, number_broken, some_rule}
use mathlib.Core.Path.{◌∙◌, sym, refl}
use Rattle.opened.proofs.OpenLaws.{stays}
use Rattle.wages.proofs.KeptLaws.{open_kept}
use Rattle.wages.proofs.Results.{wages_refused, wages_given}
use Rattle.wages.proofs.calls.wages.Goals as goal

pub returns-in-Err : goal.returns-in-Err
returns-in-Err c = wages_refused _ _ _ _ (number_broken c.open_refusal.ensures c.in-Err.is c.number.ensures) _ (some_rule c.in-Err.broken c.number.ensures)

pub open_words-requires : goal.open_words-requires
open_words-requires c =
    let k = open_kept _ _ _ (sym (none_broken c.open_refusal.ensures c.in_default.is)) in
    (k.legs.shape, k.enough)

pub wages_of-written-requires : goal.wages_of-written-requires
wages_of-written-requires c =
    let k = open_kept _ _ _ (sym (none_broken c.open_refusal.ensures c.in_default.is)) in
    (c.open_words.ensures.opened, k.legs)

pub returns : goal.returns
returns c =
    let k = stays _ _ _ c.open_words.ensures.opened c.wages_of-written.auto.work c.wages_of-written.ensures.others in
    wages_given _ _ _ _ (none_broken c.open_refusal.ensures c.in_default.is) _ refl _ _ _ _ c.wages_of-written.ensures.given (k.rest ∙ c.open_words.ensures.rest) c.zero_words.ensures
