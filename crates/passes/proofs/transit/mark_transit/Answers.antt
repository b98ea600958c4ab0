-- `transit::mark_transit` meets its contract: the nodes below u are passed.
use native.Mathlib.Omega.{arith}
use mathlib.Core.Path.{refl, ◌∙◌}
use Rattle.index.proofs.Laid.{roads_kept, roads_only}
use Rattle.passes.proofs.Passing.{passed_none, passed_all}
use Rattle.words.proofs.Stays.{after_kept}
use Rattle.words.specs.Regions.{index_at}
use Rattle.passes.proofs.transit.mark_transit.Goals as goal

pub loop-u-init : goal.loop-u-init
loop-u-init c =
    let a = c.args in
    (omega arith, refl, passed_none a.ground.now.nodes.now a.ground.now.edges.now a.ground.now.grid a.ground.now.n _ c.clear.ensures.members, refl)

pub pass_cell-requires : goal.pass_cell-requires
pass_cell-requires c =
    let a = c.args in
    let r = roads_only a.ground.now.edges.now a.ground.now.n a.work.now _ _ _ (omega arith) c.clear.ensures.others c.requires.indexed_edges in record {
      on_ground = (c.loop-u-test.true, omega (arith, c.requires.on_ground.0, c.loop-u.invariant.1, c.clear.auto.work));
      cells_passed = (
        c.loop-u.invariant.2,
        roads_kept a.ground.now.edges.now a.ground.now.n _ c.loop-u.work c.loop-u.invariant.3
            r,
      );
    }

pub loop-u-preserved : goal.loop-u-preserved
loop-u-preserved c = (
  omega (arith, c.loop-u-test.true),
  c.pass_cell.auto.work ∙ c.loop-u.invariant.1,
  c.pass_cell.ensures.passed,
  c.pass_cell.ensures.others ∙ c.loop-u.invariant.3,
)

pub returns : goal.returns
returns c =
    let a = c.args in
    let r = passed_all a.ground.now.nodes.now a.ground.now.edges.now a.ground.now.grid a.ground.now.n c.args.ground.now.keeps.0 c.args.ground.now.keeps.1 c.loop-u.u c.loop-u.work c.loop-u-test.false c.loop-u.invariant.2 in
    record { members = r.0; counted = r.1; others = c.loop-u.invariant.3 ∙ after_kept _ _ a.work.now _ c.clear.ensures.others (index_at a.ground.now.n) (omega arith) }
