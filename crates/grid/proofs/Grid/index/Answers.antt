-- `grid::Grid::index` meets its contract. Assumes nothing.
use Rattle.theory.specs.GridLaws.{index_below}
use Rattle.grid.proofs.Cells.{index_fits}
use Rattle.model.specs.Grid.{cell_index}
use Rattle.std.proofs.Common.{◌-◌, refl, arith}
use Rattle.grid.proofs.Grid.index.Goals as goal

pub overflow_mul-result : goal.overflow_mul-result
overflow_mul-result c = omega (arith, index_fits (c.args.x - c.args.from) c.args.self.g (omega arith) c.requires.few)

pub returns : goal.returns
unfolding cell_index
returns c = (
  refl,
  index_below (c.args.x - c.args.from) c.args.self.g c.args.self.spread
      c.requires.most c.requires.some,
)
