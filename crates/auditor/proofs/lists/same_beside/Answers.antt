-- `lists::same_beside` meets its contract: nodes of one cell have the same access nodes.
use mathlib.Core.Path.{refl, sym, ◌∙◌}
use Rattle.passes.specs.BuildingLaws.{among}
use Rattle.auditor.proofs.CellLists.{listed, other_cell, this_cell}
use Rattle.auditor.proofs.lists.same_beside.Goals as goal

pub beside-requires : goal.beside-requires
beside-requires c = rw (← c.args.ground.now.keeps.1) c.requires.on_ground.1

pub returns-then-not-beside : goal.returns-then-not-beside
returns-then-not-beside c = record {
  same = other_cell _ _ _ _ _ _ (sym (c.beside.ensures _ _ c.requires.on_ground.4)
      ∙ c.if-not-beside.true);
  others = refl;
}

pub same_from-requires : goal.same_from-requires
same_from-requires c =
    let a = c.args in
    record {
      n_le_max_nodes = (
        c.args.ground.now.keeps.2,
        c.requires.on_ground.1,
        c.requires.on_ground.2,
        among a.ground.now.nodes.now a.ground.now.edges.now a.ground.now.grid a.ground.now.n c.args.ground.now.keeps.1 a.work.now a.u c.requires.on_ground.0 c.requires.work_value.0
            c.requires.work_value.1,
        listed a.ground.now.n a.access.now c.requires.on_ground.3 a.v c.requires.on_ground.1,
        c.requires.sought.0,
      );
      indexed_edges = c.requires.sought.1;
    }

pub returns : goal.returns
returns c =
    let a = c.args in
    record {
      same = c.same_from.ensures.same ∙ this_cell a.ground.now.nodes.now a.ground.now.edges.now a.ground.now.grid a.access.now a.u a.ground.now.n c.args.ground.now.keeps.1
          a.work.now c.requires.work_value.0 c.requires.work_value.1 a.v (sym (c.beside.ensures _ _ c.requires.on_ground.4) ∙ c.if-not-beside.false);
      others = c.same_from.ensures.others;
    }
