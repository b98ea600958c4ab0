-- `bodies::listing::list_beside` meets its contract. Assumes nothing.
use mathlib.Core.Path.{refl, sym, ◌∙◌}
use Rattle.bodies.proofs.CellLists.{list_other, list_room, list_done}
use Rattle.bodies.proofs.listing.list_beside.Goals as goal

pub beside-requires : goal.beside-requires
beside-requires c = rw (← c.args.ground.now.keeps.1) c.requires.based.2

pub put_list-requires : goal.put_list-requires
put_list-requires c =
    let a = c.args in
    let all = list_room a.ground.now.nodes.now a.ground.now.edges.now a.ground.now.grid a.ground.now.n a.work.now c.requires.based.0 a.u a.v c.requires.based.1 c.requires.based.2 c.requires.work_value.0
    a.body.now c.requires.listed_to (sym (c.beside.ensures _ _ c.requires.based.3) ∙ c.if-beside.true) a.left c.requires.work_value.1 in record { n_le_max_nodes = all.0; indexed_edges = all.1.0; start_size_in_bounds = all.1.1 }

pub returns-then-beside : goal.returns-then-beside
returns-then-beside c =
    let a = c.args in record {
      lists = list_done a.ground.now.nodes.now a.ground.now.edges.now a.ground.now.grid a.ground.now.n a.work.now c.requires.based.0 a.u a.v c.requires.based.1 c.requires.based.2 c.requires.work_value.0
          a.body.now c.requires.listed_to (sym (c.beside.ensures _ _ c.requires.based.3) ∙
          c.if-beside.true) _ c.put_list.ensures.bytes;
      others = c.put_list.ensures.others;
    }

pub returns-else-beside : goal.returns-else-beside
returns-else-beside c =
    let a = c.args in record {
      lists = list_other a.ground.now.nodes.now a.ground.now.edges.now a.ground.now.grid a.ground.now.n a.work.now c.requires.based.0 a.u a.v c.requires.based.1 c.requires.based.2 c.requires.work_value.0
          a.body.now c.requires.listed_to (sym (c.beside.ensures _ _ c.requires.based.3) ∙ c.if-beside.false);
      others = refl;
    }
