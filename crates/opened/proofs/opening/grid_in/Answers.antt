-- `opening::grid_in` meets its contract.
use Rattle.opened.proofs.opening.grid_in.Goals as goal

pub returns : goal.returns
returns c = rw c.grid_at-a.ensures
