-- `grid::Grid::over` meets its contract. Assumes nothing.
use Rattle.grid.proofs.Bounds.{least_greatest}
use Rattle.model.specs.Grid.{grid_over}
use Rattle.std.proofs.Common.{arith}
use Rattle.grid.specs.declared.span.Axis.TheVariants.{X, Y}
use Rattle.grid.proofs.Grid.over.Goals as goal

pub overflow_sub-across : goal.overflow_sub-across
overflow_sub-across c = omega (arith, least_greatest X c.args.b.now c.requires, c.over-across.ensures)

pub overflow_sub-up : goal.overflow_sub-up
overflow_sub-up c = omega (arith, least_greatest Y c.args.b.now c.requires, c.over-up.ensures)

pub returns : goal.returns
unfolding grid_over
returns c = rw (c.max-spread.ensures, c.over-across.ensures.0, c.over-across.ensures.1, c.over-up.ensures.0, c.over-up.ensures.1)
