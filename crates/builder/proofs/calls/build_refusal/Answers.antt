-- `calls::build_refusal` meets its contract.
use mathlib.Core.Path.{sym, ◌∙◌}
use native.Mathlib.Omega.{arith}
use Rattle.builder.proofs.Outcomes.{accept_counted, accept_passed}
use Rattle.builder.specs.Given.{work_rules}
use Rattle.checks.proofs.RulesKept.{too_few}
use Rattle.theory.specs.Sound.{node_bytes}
use Rattle.checks.proofs.CheckOrder.{sooner, decides}
use Rattle.reader.proofs.Kept.{none_broken}
use Rattle.builder.proofs.calls.build_refusal.Goals as goal

pub node_count-requires : goal.node_count-requires
node_count-requires c =
    let p = accept_passed _ _ (sym (none_broken c.accept_refusal.ensures c.in_ok-accept_refusal.was)) in (p.contents, p.bodies)

pub overflow_mul-node_count : goal.overflow_mul-node_count
overflow_mul-node_count c = omega (arith, c.node_count.ensures, (node_bytes _ (accept_passed _ _ (sym (none_broken c.accept_refusal.ensures c.in_ok-accept_refusal.was))).sound).0)
