-- `far::least_over` meets its contract. The loop's invariant: the least so far and the entries from j on give the whole answer.
use native.Mathlib.Omega.{arith}
use mathlib.Core.Path.{sym, ◌∙◌}
use Rattle.tables.proofs.Values.{lesser_most}
use Rattle.tables.proofs.Leasts.{least_all, least_next, least_end}
use Rattle.tables.proofs.far.least_over.Goals as goal

pub loop-j-init : goal.loop-j-init
loop-j-init c = (least_all _ _ _ _ c.list_count-n.ensures.0, λ h. omega arith, omega arith)

pub loop-j-preserved : goal.loop-j-preserved
loop-j-preserved c =
    let next = least_next _ _ _ _ _ _ _ _ c.loop-j-test.true c.sum_with.ensures.0 c.min-least.ensures in
    (c.loop-j.invariant.0 ∙ next, rw c.min-least.ensures (lesser_most _ _ c.loop-j.invariant.1 c.sum_with.ensures.1), omega (arith, c.loop-j.invariant.2))

pub returns : goal.returns
returns c = (sym (c.loop-j.invariant.0 ∙ least_end _ _ _ _ _ _ c.loop-j-test.false), c.loop-j.invariant.1, c.loop-j.invariant.2)
