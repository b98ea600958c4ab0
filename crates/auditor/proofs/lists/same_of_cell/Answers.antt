-- `lists::same_of_cell` meets its contract: a node that is not the first of its cell asks nothing.
use native.Mathlib.Omega.{arith}
use mathlib.Core.Path.{refl, sym, ◌∙◌}
use Rattle.words.specs.Regions.{region_at, transit, search_words}
use Rattle.auditor.proofs.CellLists.{later_node, first_node, transit_kept}
use Rattle.words.proofs.Stays.{kept_more}
use Rattle.index.proofs.Laid.{roads_from}
use Rattle.auditor.proofs.lists.same_of_cell.Goals as goal

pub first_of_cell-requires : goal.first_of_cell-requires
first_of_cell-requires c = (c.args.ground.now.keeps.0.over, rw (← c.args.ground.now.keeps.1) c.requires.on_ground.0)

pub returns-then-not-first_of_cell : goal.returns-then-not-first_of_cell
returns-then-not-first_of_cell c = record { same = later_node _ _ _ _ _ (sym c.first_of_cell.ensures ∙ c.if-not-first_of_cell.true); others = refl }

pub same_in_cell-requires : goal.same_in_cell-requires
same_in_cell-requires c =
    let a = c.args in
    record {
      on_ground = (c.requires.on_ground.0, omega arith, c.requires.on_ground.2);
      work_value = (
        transit_kept a.ground.now.n a.work.now _ c.own_wanted-left.ensures.others ∙ c.requires.work_value.0,
        c.own_wanted-left.ensures.members,
      );
      sought = (
        c.own_wanted-left.ensures.sought,
        roads_from a.ground.now.edges.now a.ground.now.n a.work.now _ (region_at a.ground.now.n transit)
            (omega arith) c.own_wanted-left.ensures.others c.requires.work_value.1,
      );
    }

pub returns : goal.returns
returns c =
    let a = c.args in record {
      same = c.same_in_cell.ensures.same ∙ first_node a.ground.now.nodes.now a.ground.now.edges.now a.ground.now.grid a.access.now a.u a.ground.now.n
          c.args.ground.now.keeps.1 (sym c.first_of_cell.ensures ∙ c.if-not-first_of_cell.false);
      others = kept_more (search_words a.ground.now.n) (region_at a.ground.now.n transit) _ _ (omega arith) c.same_in_cell.ensures.others ∙
          c.own_wanted-left.ensures.others;
    }
