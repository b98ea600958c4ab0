-- `cell::cell_gather` meets its contract: the squares stay where the other region is filled.
use native.Mathlib.Omega.{arith}
use borrow.Author.Rules.{rules}
use Rattle.grid.proofs.Reached.{bounded}
use Rattle.access.proofs.Cells.{gathered_cell, roads_crossed, starts_two}
use Rattle.grid.specs.Stored.{model_cell}
use Rattle.index.proofs.Laid.{roads_only}
use Rattle.access.proofs.cell.cell_gather.Goals as goal

pub square-requires : goal.square-requires
square-requires c = bounded c.args.ground.now.keeps.0.over

pub put_crossings-requires : goal.put_crossings-requires
put_crossings-requires c = record { n_value = (c.args.ground.now.keeps.1, c.args.ground.now.keeps.2, c.requires.on_ground.0, c.requires.on_ground.1, omega arith); indexed_edges = c.requires.indexed_edges }

pub outer_square-requires : goal.outer_square-requires
outer_square-requires c = bounded c.args.ground.now.keeps.0.over

pub put_crossings-requires-2 : goal.put_crossings-requires-2
put_crossings-requires-2 c =
    let a = c.args in
    record {
      n_value = (c.args.ground.now.keeps.1, c.args.ground.now.keeps.2, search rules, c.requires.on_ground.1, omega arith);
      indexed_edges = roads_only a.ground.now.edges.now a.ground.now.n a.work.now _ _ _ (omega arith)
          c.put_crossings.ensures.others c.requires.indexed_edges;
    }

pub gather-requires : goal.gather-requires
gather-requires c =
    let a = c.args in
    let cell = model_cell a.c in
    let two = starts_two a.ground.now.nodes.now a.ground.now.edges.now a.ground.now.grid c.args.ground.now.keeps.0 a.ground.now.n c.args.ground.now.keeps.1 cell _ _
    (c.put_crossings.ensures.members a.ground.now.grid cell 0 c.args.ground.now.keeps.0 c.square.ensures) c.put_crossings-2.ensures.others in record { n_le_max_nodes = (search rules, search rules, search rules, two); indexed_edges = roads_crossed a.ground.now.edges.now a.ground.now.n a.work.now _ _ c.put_crossings.ensures.others c.put_crossings-2.ensures.others c.requires.indexed_edges }

pub returns : goal.returns
returns c =
    let a = c.args in
    let cell = model_cell a.c in
    let all = gathered_cell a.ground.now.nodes.now a.ground.now.edges.now a.ground.now.grid c.args.ground.now.keeps.0 a.ground.now.n c.args.ground.now.keeps.1 cell a.work.now _ _ _
    (c.put_crossings.ensures.members a.ground.now.grid cell 0 c.args.ground.now.keeps.0
    c.square.ensures) c.put_crossings.ensures.others
    (c.put_crossings-2.ensures.members a.ground.now.grid cell _ c.args.ground.now.keeps.0 c.outer_square.ensures) c.put_crossings-2.ensures.others
    c.gather.ensures.members c.gather.ensures.others in record { members = all.0; others = all.1 }
