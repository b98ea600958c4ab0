-- `grid::Grid::kind` meets its contract. Assumes nothing.
use Rattle.std.proofs.Common.{sym, ◌∙◌}
use Rattle.grid.proofs.Cells.{kind_far}
use Rattle.grid.proofs.Grid.kind.Goals as goal

pub returns-then-is_far : goal.returns-then-is_far
returns-then-is_far c = sym (kind_far _ _ _ ∙ rw (← c.is_far.ensures, c.if-is_far.true))

pub returns-else-is_far : goal.returns-else-is_far
returns-else-is_far c = sym (kind_far _ _ _ ∙ rw (← c.is_far.ensures, c.if-is_far.false))
