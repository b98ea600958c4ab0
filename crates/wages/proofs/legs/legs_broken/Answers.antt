-- `legs::legs_broken` meets its contract.
use mathlib.Core.Path.{refl, sym, ◌∙◌, ap}
use lib.Dec.{ltb}
use borrow.Author.Tests.{lt-ltb, le-ltb}
use Rattle.checks.proofs.CheckOrder.{first_part, second_part}
use Rattle.wages.specs.Wages.{max_legs, legs_broken}
use Rattle.wages.proofs.legs.legs_broken.Goals as goal

pub returns-then-leg_count-gt-MAX_LEGS : goal.returns-then-leg_count-gt-MAX_LEGS
unfolding legs_broken
returns-then-leg_count-gt-MAX_LEGS c =
    let told = lt-ltb _ _ c.if-leg_count-gt-MAX_LEGS.true in
    told ∙ first_part _ (sym (ap (ltb max_legs) c.leg_count.ensures) ∙ told)

pub returns-else-leg_count-gt-MAX_LEGS : goal.returns-else-leg_count-gt-MAX_LEGS
unfolding legs_broken
returns-else-leg_count-gt-MAX_LEGS c = second_part (sym (ap (ltb max_legs) c.leg_count.ensures) ∙ le-ltb _ _ c.if-leg_count-gt-MAX_LEGS.false) refl
