-- `grid_body_broken` meets its contract.
use mathlib.Core.Path.{◌∙◌, ap}
use mathlib.Core.Bool.{not}
use borrow.Author.Tests.{eq-eqb, ne_eqb}
use Rattle.model.specs.Grid.{grid_broken}
use Rattle.model.specs.Oracle.{grid_body_broken}
use Rattle.model.specs.declared.Division.{Division}
use Rattle.rules.proofs.Flags.{or_first, or_second}
use Rattle.rules.proofs.grid.grid_body_broken.Goals as goal

pub returns-then-b-ne-GRID_SIZE : goal.returns-then-b-ne-GRID_SIZE
unfolding grid_body_broken
returns-then-b-ne-GRID_SIZE c = or_first _ (ap not (ne_eqb _ _ c.if-b-ne-GRID_SIZE.true))

pub returns-else-b-ne-GRID_SIZE : goal.returns-else-b-ne-GRID_SIZE
unfolding grid_body_broken
returns-else-b-ne-GRID_SIZE c = c.grid_broken.ensures ∙ ap (λ (dv : Division). grid_broken dv.g) c.read_division.ensures
    ∙ or_second _ (ap not (eq-eqb _ _ c.if-b-ne-GRID_SIZE.false))
