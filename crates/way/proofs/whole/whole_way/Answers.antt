-- `whole::whole_way` meets its contract: no node, or s and those after it.
use native.Mathlib.Omega.{arith}
use mathlib.Core.Path.{ap}
use lib.ListN.{length}
use Rattle.arcs.proofs.Walked.{walked}
use Rattle.way.specs.Distances.{arcs_by}
use Rattle.way.proofs.Splices.{splice_none, splice_on}
use Rattle.way.proofs.Steps.{no_way, starts, begins, room}
use Rattle.way.proofs.whole.whole_way.Goals as goal

pub time_of-left-requires : goal.time_of-left-requires
time_of-left-requires c = (omega (arith, c.args.roads.now.enough), c.requires)

pub returns-then-left-eq-NO_WALK : goal.returns-then-left-eq-NO_WALK
returns-then-left-eq-NO_WALK c =
    let r = c.args.roads.now in
    let e = no_way r.n r.work.now (arcs_by r) c.args.s _ c.requires c.time_of-left.ensures.1 c.if-left-eq-NO_WALK.true in
    record { size = (omega (arith, ap length e), omega arith); bytes = splice_none 0 _ _ e }

pub overflow_cast-s : goal.overflow_cast-s
overflow_cast-s c = omega (arith, c.requires, c.args.roads.now.few)

pub way_after-requires : goal.way_after-requires
way_after-requires c =
    let r = c.args.roads.now in
    let e = starts r.n r.work.now (arcs_by r) c.args.s _ c.requires c.time_of-left.ensures.1 c.if-left-eq-NO_WALK.false in
    record { u_value = e; fits = room _ _ _ _ (walked r) r.few _ _ c.requires e }

pub returns : goal.returns
returns c =
    let r = c.args.roads.now in
    let b = begins r.n r.work.now (arcs_by r) c.args.s _ c.requires c.time_of-left.ensures.1 c.if-left-eq-NO_WALK.false in
    let e = starts r.n r.work.now (arcs_by r) c.args.s _ c.requires c.time_of-left.ensures.1 c.if-left-eq-NO_WALK.false in
    record {
      size = (omega (arith, ap length b, c.way_after.ensures.end), omega (arith, c.way_after.ensures.end, room _ _ _ _ (walked r) r.few _ _ c.requires e));
      bytes = rw b (splice_on 0 _ _ _ _ _ (omega arith) c.write16.ensures c.way_after.ensures.bytes);
    }
