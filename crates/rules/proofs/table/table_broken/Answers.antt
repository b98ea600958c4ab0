-- `rules::table::table_broken` meets its contract. The loop's invariant: the answer is that for the values from i on. Assumes nothing.
use native.Mathlib.Omega.{arith}
use mathlib.Core.Path.{sym, ◌∙◌}
use Rattle.rules.proofs.TableLaws.{square_most, table_size, table_all, table_passed, table_found, table_end}
use Rattle.rules.proofs.table.table_broken.Goals as goal

pub overflow_mul-values : goal.overflow_mul-values
overflow_mul-values c = omega (arith, square_most c.args.transit c.requires)

pub overflow_mul-values-2 : goal.overflow_mul-values-2
overflow_mul-values-2 c = omega (arith, square_most c.args.transit c.requires)

pub returns-then-b-values : goal.returns-then-b-values
returns-then-b-values c = sym (table_size _ _ c.if-b-values.true)

pub loop-i-init : goal.loop-i-init
loop-i-init c = (c.if-b-values.false, omega arith, table_all _ _ c.if-b-values.false)

pub returns-in_default : goal.returns-in_default
returns-in_default c = sym (c.loop-i.invariant.2 ∙ table_found _ _ _ c.loop-i-test.true c.in_default.ensures)

pub loop-i-preserved : goal.loop-i-preserved
loop-i-preserved c =
    let fine = c.in-Some.ensures in
    (c.loop-i.invariant.0, fine.1, c.loop-i.invariant.2 ∙ table_passed _ _ _ _ fine.2 fine.1)

pub returns : goal.returns
returns c = sym (c.loop-i.invariant.2 ∙ table_end _ _ _ c.loop-i-test.false)
