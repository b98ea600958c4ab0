-- `driven::still_driven` meets its contract: the check stands at a node of the way, at its end, or at a broken step.
use native.Mathlib.Omega.{arith}
use mathlib.Core.List.{[]}
use mathlib.Core.Path.{refl, sym, ◌∙◌}
use Rattle.sheet.specs.ArcsUnder.{arcs_under}
use Rattle.way.proofs.Steps.{no_way, begins}
use Rattle.way.proofs.Drives.{none_driven, still_first, still_next, left_less}
use Rattle.way.proofs.driven.still_driven.Goals as goal

pub time_of-requires : goal.time_of-requires
time_of-requires c = (omega (arith, c.args.roads.now.enough), c.requires)

pub returns-then-time_of-eq-NO_WALK : goal.returns-then-time_of-eq-NO_WALK
returns-then-time_of-eq-NO_WALK c =
    let r = c.args.roads.now in
    none_driven _ _ _ r.n _ (no_way r.n r.work.now _ c.args.s _ c.requires c.time_of.ensures.1 c.if-time_of-eq-NO_WALK.true)

pub loop-v-init : goal.loop-v-init
loop-v-init c =
    let r = c.args.roads.now in
    let t = c.time_of.ensures.1 in
    still_first _ _ _ _ c.args.s c.requires _ t c.if-time_of-eq-NO_WALK.false
    (begins r.n r.work.now (arcs_under r.edges.now []) c.args.s _ c.requires t c.if-time_of-eq-NO_WALK.false)

pub next_driven-requires : goal.next_driven-requires
next_driven-requires c = (c.loop-v.invariant.inside, c.loop-v.invariant.walked)

pub loop-v-smaller : goal.loop-v-smaller
loop-v-smaller c = left_less _ _ _ _ _ _ c.loop-v.invariant _ c.in-To.ensures

pub loop-v-preserved : goal.loop-v-preserved
loop-v-preserved c = still_next _ _ _ _ _ _ c.loop-v.invariant _ c.in-To.ensures

pub returns-in-End : goal.returns-in-End
returns-in-End c = sym (c.loop-v.invariant.rest ∙ c.in-End.ensures.ended refl)

pub returns-in-Broken : goal.returns-in-Broken
returns-in-Broken c = sym (c.loop-v.invariant.rest ∙ c.in-Broken.ensures.broken refl)
