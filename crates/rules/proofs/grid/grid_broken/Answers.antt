-- `grid_broken` meets its contract.
use borrow.Author.Tests.{lt-ltb, le-ltb}
use Rattle.model.specs.Grid.{grid_broken}
use Rattle.rules.proofs.Flags.{or_first, or_second}
use Rattle.rules.proofs.grid.grid_broken.Goals as goal

pub returns-then-g-lt-MIN_GRID : goal.returns-then-g-lt-MIN_GRID
unfolding grid_broken
returns-then-g-lt-MIN_GRID c = or_first _ (lt-ltb _ _ c.if-g-lt-MIN_GRID.true)

pub returns-else-g-lt-MIN_GRID : goal.returns-else-g-lt-MIN_GRID
unfolding grid_broken
returns-else-g-lt-MIN_GRID c = or_second _ (le-ltb _ _ c.if-g-lt-MIN_GRID.false)
