-- `cells::cell_square` meets its contract.
use Rattle.grid.specs.Stored.{model_cell}
use Rattle.grid.proofs.Reached.{bounded}
use Rattle.crossing.proofs.Alike.{cell_square_made}
use Rattle.crossing.proofs.cells.cell_square.Goals as goal

pub square-requires : goal.square-requires
square-requires c = bounded c.requires.0

pub returns : goal.returns
returns c =
    let a = c.args in
    cell_square_made a.grid a.nodes.now a.u (model_cell c.cell.result) _ c.requires.0 c.requires.1 c.cell.ensures c.square.ensures
