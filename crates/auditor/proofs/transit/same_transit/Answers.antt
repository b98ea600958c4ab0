-- `transit::same_transit` meets its contract.
use Rattle.auditor.proofs.transit.same_transit.Goals as goal

pub returns : goal.returns
returns c = rw c.region.ensures.0 at c.same_numbers.ensures
