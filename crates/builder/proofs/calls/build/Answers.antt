-- `builder::calls::build` meets its contract. Assumes nothing.
use native.Mathlib.Omega.{arith}
use mathlib.Core.Path.{sym, ◌∙◌, refl}
use Rattle.checks.proofs.AfterCall.{needed}
use Rattle.theory.specs.Sound.{node_bytes}
use Rattle.model.specs.Rules.{words_needed}
use Rattle.reader.proofs.Kept.{none_broken, number_broken, some_rule}
use Rattle.builder.proofs.Outcomes.{work_kept, build_refused, build_given}
use Rattle.builder.proofs.calls.build.Goals as goal

pub returns-in-Err : goal.returns-in-Err
returns-in-Err c =
    let a = c.args in
    build_refused a.network.now a.dv a.work.now a.out.now _ (number_broken c.build_refusal.ensures c.in-Err.is c.number.ensures) (some_rule c.in-Err.broken c.number.ensures)

pub build_of-built-requires : goal.build_of-built-requires
build_of-built-requires c = work_kept _ _ _ (sym (none_broken c.build_refusal.ensures c.in_default.is))

pub node_count-requires : goal.node_count-requires
node_count-requires c =
    let p = (work_kept _ _ _ (sym (none_broken c.build_refusal.ensures c.in_default.is))).0 in
    (p.contents, p.bodies)

pub overflow_mul-node_count : goal.overflow_mul-node_count
overflow_mul-node_count c = omega (
  arith,
  c.node_count.ensures,
  (node_bytes _ (work_kept _ _ _
      (sym (none_broken c.build_refusal.ensures c.in_default.is))).0.sound).0,
)

pub zero_front-requires : goal.zero_front-requires
unfolding words_needed
zero_front-requires c = omega (
  arith,
  c.node_count.ensures,
  (work_kept _ _ _ (sym (none_broken c.build_refusal.ensures c.in_default.is))).1,
)

pub returns : goal.returns
returns c =
    let a = c.args in
    build_given a.network.now a.dv a.work.now a.out.now _
    (none_broken c.build_refusal.ensures c.in_default.is) _ _ _ _
    refl c.build_of-built.ensures.given
    c.build_of-built.ensures.rest (c.zero_front.ensures ∙ needed _ _ c.node_count.ensures _)
