-- `answers::judge` meets its contract: over the oracle's bodies.
use native.Mathlib.Omega.{arith}
use Rattle.opened.proofs.OpenLaws.{lent}
use Rattle.under.proofs.Networks.{judged_over}
use Rattle.under.proofs.answers.judge.Goals as goal

pub old_way_driven-requires : goal.old_way_driven-requires
old_way_driven-requires c =
    let k = lent _ _ c.requires.opened.0 _ _ c.oracle_body.ensures
    c.node_count.ensures in record { n_le_max_nodes = (k.few, k.below _ c.requires.opened.1, k.below _ c.requires.opened.2, k.room, k.roads, k.below 1 (omega (arith, c.requires.opened.1, c.requires.opened.2, c.requires.opened.3))); lines_value = rw c.oracle_body.ensures c.requires.quick_lines }

pub returns : goal.returns
returns c =
    let a = c.args in
    judged_over a.o.now a.lines.now c.requires.opened.0 a.s a.t c.requires.opened.1 c.requires.opened.2 c.requires.opened.3 _ _
    c.oracle_body.ensures
    c.node_count.ensures _ _ c.old_way_driven.auto.work c.old_way_driven.ensures.driven c.old_way_driven.ensures.old c.old_way_driven.ensures.edges
    c.old_way_driven.ensures.others
