-- `transit::pass_cell` meets its contract: the first node of a cell sees to all its nodes, and another to none.
use native.Mathlib.Omega.{arith}
use mathlib.Core.Path.{refl, sym, ◌∙◌}
use lib.ListN.{drop}
use Rattle.crossing.specs.SetLaws.{ones_most}
use Rattle.words.specs.Regions.{region_at, own}
use Rattle.passes.proofs.Passing.{passed_next, passed_later}
use Rattle.passes.proofs.transit.pass_cell.Goals as goal

pub put_counts-requires : goal.put_counts-requires
put_counts-requires c =
    let a = c.args in
    let x = c.own_access.new.work in (
      c.requires.on_ground.0,
      omega (arith, c.count-k.ensures, ones_most a.ground.now.n (drop (region_at a.ground.now.n own) x)),
      omega (arith, c.requires.on_ground.1, c.own_access.auto.work, c.unite.auto.work),
    )

pub returns-then-first_of_cell : goal.returns-then-first_of_cell
returns-then-first_of_cell c =
    let a = c.args in
    let all = passed_next a.ground.now.nodes.now a.ground.now.edges.now a.ground.now.grid a.ground.now.n a.u c.requires.on_ground.0 a.work.now _ _ _ c.requires.cells_passed.0 c.own_access.ensures.members
    c.own_access.ensures.others c.unite.ensures.members c.unite.ensures.others _ c.count-k.ensures
    c.put_counts.ensures.counted c.put_counts.ensures.others in record { passed = all.0; others = all.1 }

pub returns-else-first_of_cell : goal.returns-else-first_of_cell
returns-else-first_of_cell c =
    let a = c.args in record {
      passed = passed_later a.ground.now.nodes.now a.ground.now.edges.now a.ground.now.grid a.ground.now.n a.u a.work.now c.requires.cells_passed.0
          (sym c.if-first_of_cell.false ∙ c.first_of_cell.ensures);
      others = refl;
    }
