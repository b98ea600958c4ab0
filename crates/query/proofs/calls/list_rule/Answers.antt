-- `calls::list_rule` meets its contract.
use Rattle.model.specs.Calls.{list_refusal}
use Rattle.reader.proofs.Kept.{none_broken, number_broken}
use Rattle.query.proofs.calls.list_rule.Goals as goal

pub returns-in-Ok : goal.returns-in-Ok
unfolding list_refusal
returns-in-Ok c = none_broken c.list_refusal.ensures c.in-Ok.is

pub returns-in-Err : goal.returns-in-Err
unfolding list_refusal
returns-in-Err c = number_broken c.list_refusal.ensures c.in-Err.is c.number.ensures
