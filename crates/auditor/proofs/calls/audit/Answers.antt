-- `calls::audit` meets its contract.
use mathlib.Core.Path.{sym, refl}
use native.Mathlib.Omega.{arith}
use Rattle.model.specs.Rules.{words_needed}
use Rattle.checks.proofs.RulesKept.{room_kept}
use Rattle.rules.specs.Refusals.{number_of}
use Rattle.reader.proofs.Kept.{none_broken, number_broken, some_rule}
use Rattle.auditor.proofs.Outcomes.{audit_refused, audit_told, behind_needed}
use Rattle.auditor.proofs.calls.audit.Goals as goal

pub returns-in-Err : goal.returns-in-Err
returns-in-Err c = audit_refused _ _ _ (number_broken c.room_refusal.ensures c.in-Err.is c.number.ensures) (some_rule c.in-Err.broken c.number.ensures)

pub node_count-n-requires : goal.node_count-n-requires
node_count-n-requires c = (room_kept _ _ (sym (none_broken c.room_refusal.ensures c.in_default.is))).0

pub is_built-same-requires : goal.is_built-same-requires
unfolding words_needed
is_built-same-requires c =
    let k = room_kept _ _ (sym (none_broken c.room_refusal.ensures c.in_default.is)) in
    (k.0, c.node_count-n.ensures, omega (arith, c.node_count-n.ensures, k.1))

pub zero_words-requires : goal.zero_words-requires
zero_words-requires c =
    let k = room_kept _ _ (sym (none_broken c.room_refusal.ensures c.in_default.is)) in
    (k.0, omega (arith, k.1))

pub returns-then-same : goal.returns-then-same
returns-then-same c = audit_told _ _ _ (none_broken c.room_refusal.ensures c.in_default.is) refl _ c.is_built-same.ensures.same _ _
    (behind_needed _ _ c.node_count-n.ensures _ _ c.is_built-same.ensures.rest) c.zero_words.ensures _ (rw c.if-same.true)

pub returns-else-same : goal.returns-else-same
unfolding number_of
returns-else-same c = audit_told _ _ _ (none_broken c.room_refusal.ensures c.in_default.is) refl _ c.is_built-same.ensures.same _ _
    (behind_needed _ _ c.node_count-n.ensures _ _ c.is_built-same.ensures.rest) c.zero_words.ensures _ (rw (c.if-same.false, c.number-else-same.ensures))
