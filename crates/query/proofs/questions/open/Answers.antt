-- `questions::open` meets its contract.
use mathlib.Core.Path.{sym, refl}
use Rattle.reader.proofs.Kept.{none_broken, number_broken, some_rule}
use Rattle.checks.proofs.RulesKept.{room_kept}
use Rattle.query.proofs.questions.open.Goals as goal

pub returns-in-Err : goal.returns-in-Err
returns-in-Err c = record {
  rule = number_broken c.room_refusal.ensures c.in-Err.is c.number.ensures;
  opened = λ e. absurd (some_rule c.in-Err.broken c.number.ensures e);
  unwritten = λ n. refl;
  rest = refl;
}

pub open_words-requires : goal.open_words-requires
open_words-requires c = room_kept _ _ (sym (none_broken c.room_refusal.ensures c.in_default.is))

pub returns : goal.returns
returns c = record {
  rule = none_broken c.room_refusal.ensures c.in_default.is;
  opened = λ e. c.open_words.ensures.opened;
  unwritten = λ n. absurd (n refl);
  rest = c.open_words.ensures.rest;
}
