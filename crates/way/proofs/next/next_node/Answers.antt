-- `next::next_node` meets its contract: the lowest over the arcs passed, which at the end are those that leave the node.
use native.Mathlib.Omega.{arith}
use Rattle.way.proofs.Nexts.{lowered_first, lowered_next, lowered_last}
use Rattle.way.proofs.Words.{node_there}
use Rattle.way.proofs.Steps.{none_of, lowest_of}
use Rattle.way.proofs.next.next_node.Goals as goal

pub first_arc-a-requires : goal.first_arc-a-requires
first_arc-a-requires c = node_there c.args.roads.now _ _ c.requires

pub loop-a-init : goal.loop-a-init
loop-a-init c = lowered_first _ _ _ _ _ _ _ _ c.first_arc-a.ensures

pub lower-r-requires : goal.lower-r-requires
lower-r-requires c = (omega (arith, c.args.roads.now.enough), c.loop-a-test.true, c.loop-a.invariant.passes.low)

pub next_under-a-requires : goal.next_under-a-requires
next_under-a-requires c = record { u_lt_n = node_there c.args.roads.now _ _ c.requires; valid_arc = (c.loop-a.invariant.passes.valid, c.loop-a-test.true) }

pub loop-a-smaller : goal.loop-a-smaller
loop-a-smaller c = c.next_under-a.ensures.less

pub loop-a-preserved : goal.loop-a-preserved
loop-a-preserved c = lowered_next _ _ _ _ _ _ _ _ _ c.loop-a.invariant c.args.left _ _ c.requires c.lower-r.ensures c.next_under-a.ensures

pub returns-then-r-roads : goal.returns-then-r-roads
returns-then-r-roads c = none_of _ _ c.loop-a.r (lowered_last _ _ _ _ _ _ _ _ _ c.loop-a.invariant (omega (arith, c.loop-a-test.false))) c.if-r-roads.true

pub returns-else-r-roads : goal.returns-else-r-roads
returns-else-r-roads c = lowest_of _ _ c.loop-a.r (lowered_last _ _ _ _ _ _ _ _ _ c.loop-a.invariant (omega (arith, c.loop-a-test.false))) c.if-r-roads.false
