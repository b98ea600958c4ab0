-- `driven::drives` meets its contract: none of the arcs passed drives the step, and one that does decides it.
use native.Mathlib.Omega.{arith}
use mathlib.Core.Path.{◌∙◌}
use Rattle.arcs.proofs.Tests.{unmet_first, unmet_next, met, unmet_last}
use Rattle.way.specs.Distances.{distance_by}
use Rattle.way.proofs.Drives.{driving_from, some_drives, asked}
use Rattle.way.proofs.Words.{node_there}
use Rattle.way.proofs.driven.drives.Goals as goal

pub first_arc-a-requires : goal.first_arc-a-requires
first_arc-a-requires c = node_there c.args.roads.now _ _ c.requires.0

pub loop-a-init : goal.loop-a-init
loop-a-init c = unmet_first _ _ _ _ _ _ _ c.first_arc-a.ensures

pub is_step-requires : goal.is_step-requires
is_step-requires c = (omega (arith, c.loop-a-test.true, c.requires.1), c.loop-a.invariant.passes.low)

pub returns-then-is_step : goal.returns-then-is_step
returns-then-is_step c =
    let a = c.args in
    let q = asked (distance_by a.roads.now) a.u a.v c.loop-a.a.to c.loop-a.a.cost a.left _ c.requires.0 c.is_step.ensures in
    met _ _ _ _ _ _ _ c.loop-a.invariant _ c.if-is_step.true q c.loop-a-test.true ∙ some_drives _ _ _ _

pub next_under-a-requires : goal.next_under-a-requires
next_under-a-requires c = record { u_lt_n = node_there c.args.roads.now _ _ c.requires.0; valid_arc = (c.loop-a.invariant.passes.valid, c.loop-a-test.true) }

pub loop-a-smaller : goal.loop-a-smaller
loop-a-smaller c = c.next_under-a.ensures.less

pub loop-a-preserved : goal.loop-a-preserved
loop-a-preserved c =
    let a = c.args in
    let q = asked (distance_by a.roads.now) a.u a.v c.loop-a.a.to c.loop-a.a.cost a.left _ c.requires.0 c.is_step.ensures in
    unmet_next _ _ _ _ _ _ _ c.loop-a.invariant _ _ c.if-is_step.false q c.next_under-a.ensures

pub returns : goal.returns
returns c = unmet_last _ _ _ _ _ _ _ c.loop-a.invariant (omega (arith, c.loop-a-test.false)) (driving_from _ _ _) ∙ some_drives _ _ _ _
