-- `calls::list` meets its contract.
use native.Mathlib.Omega.{arith}
use mathlib.Core.Path.{◌∙◌, sym, refl}
use Rattle.model.specs.Calls.{list_result, list_refusal}
use Rattle.theory.specs.Passed.{all_shaped}
use Rattle.tables.specs.Oracles.{has_list, list_of_law}
use Rattle.rules.proofs.Refusals.{is_a_rule}
use Rattle.reader.proofs.Kept.{none_broken, number_broken}
use Rattle.checks.proofs.RulesKept.{list_kept}
use Rattle.query.proofs.Results.{part_refused, part_given}
use Rattle.query.proofs.calls.list.Goals as goal

pub returns-in-Err : goal.returns-in-Err
unfolding list_result list_refusal
returns-in-Err c = rw (← number_broken c.list_refusal.ensures c.in-Err.is refl) (part_refused _ _ (is_a_rule _))

pub oracle_body-requires : goal.oracle_body-requires
oracle_body-requires c = ((list_kept _ _ (sym (none_broken c.list_refusal.ensures c.in-Ok.is))).shape, omega arith)

pub list_part-requires : goal.list_part-requires
list_part-requires c =
    let k = list_kept _ _ (sym (none_broken c.list_refusal.ensures c.in-Ok.is)) in
    rw c.oracle_body.ensures (_, has_list _ (all_shaped _ k.shape) _ k.node)

pub returns-in-Ok : goal.returns-in-Ok
unfolding list_result list_refusal
returns-in-Ok c =
    let e = sym (none_broken c.list_refusal.ensures c.in-Ok.is) in
    let k = list_kept _ _ e in
    c.list_part.ensures ∙ (rw c.oracle_body.ensures (sym (list_of_law _ (all_shaped _ k.shape) _ k.node)) ∙ part_given _ _ e)
