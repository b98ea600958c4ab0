-- `grid::Grid::cell` meets its contract. Assumes nothing.
use Rattle.grid.proofs.Cells.{holds}
use Rattle.grid.specs.declared.span.Axis.TheVariants.{X, Y}
use Rattle.model.specs.Grid.{cell_of}
use Rattle.model.specs.Network.{node_count}
use Rattle.std.proofs.Common.{arith}
use Rattle.grid.proofs.Grid.cell.Goals as goal

pub read-node-requires : goal.read-node-requires
unfolding node_count
read-node-requires c = omega arith

pub column-requires : goal.column-requires
column-requires c = rw c.read-node.ensures.x (holds c.requires.0 X c.args.i c.requires.1)

pub row-requires : goal.row-requires
row-requires c = rw c.read-node.ensures.y (holds c.requires.0 Y c.args.i c.requires.1)

pub returns : goal.returns
unfolding cell_of
returns c = rw (c.column.ensures.0, c.row.ensures.0, c.read-node.ensures.x, c.read-node.ensures.y)
