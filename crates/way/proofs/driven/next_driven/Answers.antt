-- `driven::next_driven` meets its contract: the way ends at u, or it goes on to v.
use native.Mathlib.Omega.{arith}
use mathlib.Core.Path.{refl, sym, ◌∙◌}
use mathlib.Core.List.{[]}
use Rattle.arcs.proofs.Bodies.{plain}
use Rattle.arcs.proofs.Walked.{walked}
use Rattle.way.proofs.Steps.{starts, stops, goes}
use Rattle.way.proofs.Drives.{left_read, way_ended, step_driven, step_broken}
use Rattle.way.proofs.driven.next_driven.Goals as goal

pub time_of-left-requires : goal.time_of-left-requires
time_of-left-requires c = (omega (arith, c.args.roads.now.enough), c.requires.0)

pub invariant_of-old : goal.invariant_of-old
invariant_of-old c =
    let r = c.args.roads.now in record { few = r.few; enough = r.enough; under = ∣ plain r.edges.now r.n r.work.now (walked r).roads ∣₁ }

pub next_node-requires : goal.next_node-requires
next_node-requires c =
    let r = c.args.roads.now in
    let t = c.time_of-left.ensures.1 in
    starts r.n r.work.now [] c.args.u _ c.requires.0 t (λ z. c.requires.1 (sym t ∙ z))

pub returns-in-None : goal.returns-in-None
returns-in-None c =
    let r = c.args.roads.now in
    let t = c.time_of-left.ensures.1 in
    let e = starts r.n r.work.now [] c.args.u _ c.requires.0 t (λ z. c.requires.1 (sym t ∙ z)) in
    let g = plain r.edges.now r.n r.work.now (walked r).roads in
    left_read t (way_ended _ _ _ _ _ _ (stops _ _ _ _ g c.args.u _ e c.in-None.ensures))

pub drives-requires : goal.drives-requires
drives-requires c =
    let r = c.args.roads.now in
    let t = c.time_of-left.ensures.1 in
    let e = starts r.n r.work.now [] c.args.u _ c.requires.0 t (λ z. c.requires.1 (sym t ∙ z)) in
    let g = plain r.edges.now r.n r.work.now (walked r).roads in
    (e, (goes _ _ _ _ g c.args.u _ e _ c.in-Some.ensures _ refl).inside)

pub returns-in-Some : goal.returns-in-Some
returns-in-Some c =
    let r = c.args.roads.now in
    let t = c.time_of-left.ensures.1 in
    let e = starts r.n r.work.now [] c.args.u _ c.requires.0 t (λ z. c.requires.1 (sym t ∙ z)) in
    let g = plain r.edges.now r.n r.work.now (walked r).roads in
    let s = goes _ _ _ _ g c.args.u _ e _ c.in-Some.ensures _ refl in
    left_read t
    (step_driven _ _ _ _ _ _ _ _ s.inside s.on s.time s.less (sym c.drives.ensures ∙ c.if-drives.true))

pub returns-in-Some-2 : goal.returns-in-Some-2
returns-in-Some-2 c =
    let r = c.args.roads.now in
    let t = c.time_of-left.ensures.1 in
    let e = starts r.n r.work.now [] c.args.u _ c.requires.0 t (λ z. c.requires.1 (sym t ∙ z)) in
    let g = plain r.edges.now r.n r.work.now (walked r).roads in
    let s = goes _ _ _ _ g c.args.u _ e _ c.in-Some.ensures _ refl in
    left_read t
    (step_broken _ _ _ _ _ _ _ _ s.inside s.on (sym c.drives.ensures ∙ c.if-drives.false))
