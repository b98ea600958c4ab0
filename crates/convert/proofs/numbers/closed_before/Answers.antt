-- `numbers::closed_before` meets its contract: what is looked for stands neither below `low` nor from `high` on. Assumes nothing.
use native.Mathlib.Omega.{arith}
use Rattle.convert.proofs.Finding.{between_all, between_after, between_before, between_end}
use borrow.Author.Rules.{rules}
use Rattle.convert.proofs.numbers.closed_before.Goals as goal

pub loop-low-init : goal.loop-low-init
loop-low-init c = (search rules, search rules, between_all _ _)

pub loop-low-preserved-then-number-i : goal.loop-low-preserved-then-number-i
loop-low-preserved-then-number-i c = (omega arith, omega arith, between_after _ _ c.requires _ _ _ _ c.loop-low.invariant.2 (omega arith) c.number.ensures.0 c.if-number-i.true)

pub loop-low-preserved : goal.loop-low-preserved
loop-low-preserved c = (omega arith, omega arith, between_before _ _ c.requires _ _ _ _ c.loop-low.invariant.2 (omega arith) c.number.ensures.0 (omega (arith, c.if-number-i.false)))

pub returns : goal.returns
returns c = between_end _ _ _ _ c.loop-low.invariant.0 c.loop-low.invariant.1 (omega arith) c.loop-low.invariant.2
