-- `read_division` meets its contract.
use Rattle.model.specs.Grid.{division}
use Rattle.rules.proofs.grid.read_division.Goals as goal

pub returns : goal.returns
unfolding division
returns c =
    let e = c.read16.ensures.0 in λ i. record { g = e i }
