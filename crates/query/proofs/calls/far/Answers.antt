-- `calls::far` meets its contract.
use mathlib.Core.Path.{◌∙◌, sym, ap}
use Rattle.model.specs.Query.{meaning}
use Rattle.model.specs.Calls.{far_result}
use Rattle.reader.proofs.Kept.{none_broken, number_broken, some_rule}
use Rattle.checks.proofs.RulesKept.{far_kept}
use Rattle.checks.proofs.AfterCall.{answer_refused, answer_given}
use Rattle.query.proofs.calls.far.Goals as goal

pub returns-in-Err : goal.returns-in-Err
unfolding far_result
returns-in-Err c = record {
  result = rw (← number_broken c.far_refusal.ensures c.in-Err.is c.number.ensures)
      (ap meaning (answer_refused _ _ (some_rule c.in-Err.broken c.number.ensures)));
}

pub far_of-requires : goal.far_of-requires
far_of-requires c =
    let k = far_kept _ _ _ (sym (none_broken c.far_refusal.ensures c.in_default.is)) in (k.shape, k.first, k.second)

pub returns : goal.returns
unfolding far_result
returns c = record { result = ap meaning (c.far_of.ensures ∙ answer_given _ _ (sym (none_broken c.far_refusal.ensures c.in_default.is))) }
