-- `far::far_key` meets its contract. The loop's invariant: the least so far and the entries from i on give the whole answer.
use native.Mathlib.Omega.{arith}
use mathlib.Core.Path.{sym, ◌∙◌}
use Rattle.model.specs.Query.{far_distance}
use Rattle.tables.proofs.Values.{summed_small}
use Rattle.tables.proofs.Leasts.{least_all, least_next, least_end}
use Rattle.tables.proofs.far.far_key.Goals as goal

pub loop-i-init : goal.loop-i-init
unfolding far_distance
loop-i-init c = (least_all _ _ _ _ c.list_count-n.ensures.0, omega arith)

pub loop-i-preserved : goal.loop-i-preserved
loop-i-preserved c =
    let next = least_next _ _ _ _ _ _ _ _ c.loop-i-test.true c.least_from.ensures c.min-least.ensures in
    (c.loop-i.invariant.0 ∙ next, omega (arith, c.loop-i.invariant.1))

pub returns : goal.returns
returns c = (sym (c.loop-i.invariant.0 ∙ least_end _ _ _ _ _ _ c.loop-i-test.false ∙ summed_small _ c.loop-i.invariant.1), c.loop-i.invariant.1)
