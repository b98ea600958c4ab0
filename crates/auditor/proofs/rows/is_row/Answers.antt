-- `rows::is_row` meets its contract.
use Rattle.auditor.proofs.rows.is_row.Goals as goal

pub returns : goal.returns
returns c = rw c.region.ensures.0 at c.same_row.ensures
