-- `own::own_access` meets its contract: the code's cell of u is its cell in the list of cells.
use native.Mathlib.Omega.{arith}
use Rattle.words.specs.Regions.{own}
use Rattle.passes.proofs.Listing.{access_listed}
use Rattle.passes.proofs.own.own_access.Goals as goal

pub cell_access-requires : goal.cell_access-requires
cell_access-requires c = record { on_ground = (c.requires.on_ground.1, omega (arith, c.requires.on_ground.0)); indexed_edges = c.requires.indexed_edges }

pub returns : goal.returns
returns c =
    let a = c.args in
    record {
      members = access_listed a.ground.now.nodes.now a.ground.now.edges.now a.ground.now.grid a.ground.now.n c.args.ground.now.keeps.1 a.u c.requires.on_ground.0 own _ _
          c.cell-c.ensures c.cell_access.ensures.members;
      others = c.cell_access.ensures.others;
    }
