-- `lists::same_lists` meets its contract: the nodes from u on are left, and testing cell by cell tests all lists.
use native.Mathlib.Omega.{arith}
use mathlib.Core.Path.{refl, sym, ◌∙◌}
use Rattle.words.specs.Regions.{region_at, transit}
use Rattle.auditor.proofs.Tested.{left_all, left_fails, left_goes, left_none, by_cells_to}
use Rattle.auditor.proofs.CellLists.{transit_kept}
use Rattle.index.proofs.Laid.{roads_from}
use Rattle.auditor.proofs.lists.same_lists.Goals as goal

pub loop-u-init : goal.loop-u-init
loop-u-init c = (refl, refl, left_all _ _)

pub same_of_cell-requires : goal.same_of_cell-requires
same_of_cell-requires c =
    let a = c.args in
    record {
      on_ground = (c.loop-u-test.true, omega (arith, c.loop-u.invariant.0), c.requires.on_ground.1);
      work_value = (
        transit_kept a.ground.now.n a.work.now c.loop-u.work c.loop-u.invariant.1 ∙ c.requires.work_value.0,
        roads_from a.ground.now.edges.now a.ground.now.n a.work.now c.loop-u.work (region_at a.ground.now.n transit) (omega arith) c.loop-u.invariant.1 c.requires.work_value.1,
      );
    }

pub shape_of-work-then-not-same_of_cell : goal.shape_of-work-then-not-same_of_cell
shape_of-work-then-not-same_of_cell c = omega (arith, c.loop-u.invariant.0)

pub returns-then-not-same_of_cell : goal.returns-then-not-same_of_cell
returns-then-not-same_of_cell c =
    let a = c.args in record {
      same = sym (sym (by_cells_to a.ground.now.nodes.now a.ground.now.edges.now a.ground.now.grid a.access.now a.ground.now.n c.args.ground.now.keeps.1) ∙ left_fails _ _ _ c.loop-u.invariant.2
          c.loop-u-test.true (sym c.same_of_cell.ensures.same ∙ c.if-not-same_of_cell.true));
      others = c.same_of_cell.ensures.others ∙ c.loop-u.invariant.1;
    }

pub loop-u-preserved : goal.loop-u-preserved
loop-u-preserved c = (
  omega (arith, c.loop-u.invariant.0),
  c.same_of_cell.ensures.others ∙ c.loop-u.invariant.1,
  left_goes _ _ _ c.loop-u.invariant.2 c.loop-u-test.true
      (sym c.same_of_cell.ensures.same ∙ c.if-not-same_of_cell.false),
)

pub shape_of-work : goal.shape_of-work
shape_of-work c = c.loop-u.invariant.0

pub returns : goal.returns
returns c =
    let a = c.args in record {
      same = sym (sym (by_cells_to a.ground.now.nodes.now a.ground.now.edges.now a.ground.now.grid a.access.now a.ground.now.n c.args.ground.now.keeps.1) ∙ left_none _ _ _ c.loop-u.invariant.2
          c.loop-u-test.false);
      others = c.loop-u.invariant.1;
    }
