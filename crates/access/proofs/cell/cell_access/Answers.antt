-- `cell::cell_access` meets its contract: the inner crossing nodes among the gathered.
use native.Mathlib.Omega.{arith}
use borrow.Author.Rules.{rules}
use Rattle.grid.proofs.Reached.{bounded}
use Rattle.access.proofs.Cells.{access_cell}
use Rattle.words.specs.Regions.{region_at, transit}
use Rattle.grid.specs.Stored.{model_cell}
use Rattle.index.proofs.Laid.{roads_from}
use Rattle.access.proofs.cell.cell_access.Goals as goal

pub inner_square-requires : goal.inner_square-requires
inner_square-requires c = bounded c.args.ground.now.keeps.0.over

pub put_crossings-requires : goal.put_crossings-requires
put_crossings-requires c =
    let a = c.args in
    record {
      n_value = (c.args.ground.now.keeps.1, c.args.ground.now.keeps.2, search rules, c.requires.on_ground.1, omega arith);
      indexed_edges = roads_from a.ground.now.edges.now a.ground.now.n a.work.now _ (region_at a.ground.now.n transit) (omega arith)
          c.cell_gather.ensures.others c.requires.indexed_edges;
    }

pub returns : goal.returns
returns c =
    let a = c.args in
    let cell = model_cell a.c in
    let all = access_cell a.ground.now.nodes.now a.ground.now.edges.now a.ground.now.grid c.args.ground.now.keeps.0 a.ground.now.n c.args.ground.now.keeps.1 cell a.work.now _ _ _
    c.cell_gather.ensures.members c.cell_gather.ensures.others (c.put_crossings.ensures.members a.ground.now.grid cell _ c.args.ground.now.keeps.0 c.inner_square.ensures)
    c.put_crossings.ensures.others c.meet.ensures.members c.meet.ensures.others in record { members = all.0; others = all.1 }
