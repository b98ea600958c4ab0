-- `lists::same_in_cell` meets its contract: the nodes from v on are left.
use native.Mathlib.Omega.{arith}
use mathlib.Core.Path.{sym, ◌∙◌}
use borrow.Author.Rules.{rules}
use Rattle.passes.proofs.Seeking.{sought_later}
use Rattle.auditor.proofs.Tested.{left_all, left_fails, left_goes, left_none}
use Rattle.auditor.proofs.Behind.{kept_same, kept_then, own_behind, transit_behind, roads_behind}
use Rattle.auditor.proofs.lists.same_in_cell.Goals as goal

pub cell_square-square-requires : goal.cell_square-square-requires
cell_square-square-requires c = (c.args.ground.now.keeps.0.over, rw (← c.args.ground.now.keeps.1) c.requires.on_ground.0)

pub loop-v-init : goal.loop-v-init
loop-v-init c = (kept_same _ _, left_all _ _)

pub same_beside-requires : goal.same_beside-requires
same_beside-requires c =
    let a = c.args in
    record {
      on_ground = (
        c.requires.on_ground.0,
        c.loop-v-test.true,
        omega (arith, c.loop-v.invariant.0.size),
        c.requires.on_ground.2,
        c.cell_square-square.ensures,
      );
      work_value = (
        rw (transit_behind a.ground.now.n a.work.now c.loop-v.work c.loop-v.invariant.0.behind) c.requires.work_value.0,
        rw (own_behind a.ground.now.n a.work.now c.loop-v.work c.loop-v.invariant.0.behind) c.requires.work_value.1,
      );
      sought = (
        sought_later a.ground.now.n a.left a.work.now c.requires.sought.0 c.loop-v.work c.loop-v.invariant.0.behind,
        roads_behind a.ground.now.n a.work.now c.loop-v.work c.loop-v.invariant.0.behind a.ground.now.edges.now c.requires.sought.1,
      );
    }

pub shape_of-work-then-not-same_beside : goal.shape_of-work-then-not-same_beside
shape_of-work-then-not-same_beside c = omega (arith, c.loop-v.invariant.0.size)

pub returns-then-not-same_beside : goal.returns-then-not-same_beside
returns-then-not-same_beside c = record {
  same = sym (left_fails _ _ _ c.loop-v.invariant.1 c.loop-v-test.true
      (sym c.same_beside.ensures.same ∙ c.if-not-same_beside.true));
  others = c.same_beside.ensures.others ∙ c.loop-v.invariant.0.behind;
}

pub loop-v-preserved : goal.loop-v-preserved
loop-v-preserved c = (
  kept_then _ _ _ _ c.loop-v.invariant.0 (search rules) c.same_beside.ensures.others,
  left_goes _ _ _ c.loop-v.invariant.1 c.loop-v-test.true (sym c.same_beside.ensures.same ∙ c.if-not-same_beside.false),
)

pub shape_of-work : goal.shape_of-work
shape_of-work c = c.loop-v.invariant.0.size

pub returns : goal.returns
returns c = record { same = sym (left_none _ _ _ c.loop-v.invariant.1 c.loop-v-test.false); others = c.loop-v.invariant.0.behind }
