-- `rules::table::exceeds` meets its contract. Assumes nothing.
use Rattle.rules.proofs.TableLaws.{excess_read}
use Rattle.rules.proofs.table.exceeds.Goals as goal

pub returns : goal.returns
returns c = excess_read _ _ _ _ c.read32-seconds.ensures c.read16-hops.ensures.0 c.read16-hops.ensures.1
