-- `bodies::oracle_bodies` meets its contract.
use Rattle.theory.specs.Sound.{few_numbers}
use native.Mathlib.Omega.{arith}
use mathlib.Core.Path.{sym, ◌∙◌}
use Rattle.rules.specs.Refusals.{refused}
use Rattle.rules.specs.declared.refusal.Refusal.TheVariants.{Transit}
use Rattle.reader.proofs.Kept.{rule_kept}
use Rattle.reader.proofs.bodies.oracle_bodies.Goals as goal

pub table_broken-requires : goal.table_broken-requires
unfolding refused
table_broken-requires c =
    let a = c.args in
    omega (arith, few_numbers a.n a.transit.now (sym c.numbers_broken.ensures ∙ rule_kept Transit c.in_ok-broken_if-2.ensures))
