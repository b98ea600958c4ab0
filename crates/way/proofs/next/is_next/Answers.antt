-- `next::is_next` meets its contract: no time, or a sum of two.
use native.Mathlib.Omega.{arith}
use mathlib.Core.Path.{ap, ◌∙◌}
use mathlib.Core.Bool.{not}
use borrow.Author.Tests.{eq-eqb}
use Rattle.words.proofs.TimeLaws.{times_length}
use Rattle.words.specs.Regions.{times_in}
use Rattle.way.proofs.Words.{next_none, next_sum}
use Rattle.way.proofs.next.is_next.Goals as goal

pub returns-then-x-ne-NO_WALK : goal.returns-then-x-ne-NO_WALK
returns-then-x-ne-NO_WALK c =
    let a = c.args in
    next_sum (times_in a.n a.work.now) a.v (omega (arith, times_length a.n a.work.now)) _ c.time_of-x.ensures.1 _ _ c.if-x-ne-NO_WALK.true

pub returns-else-x-ne-NO_WALK : goal.returns-else-x-ne-NO_WALK
returns-else-x-ne-NO_WALK c =
    let a = c.args in
    ap not (eq-eqb _ _ c.if-x-ne-NO_WALK.false)
    ∙ next_none (times_in a.n a.work.now) a.v (omega (arith, times_length a.n a.work.now)) _ c.time_of-x.ensures.1 _ _ c.if-x-ne-NO_WALK.false
