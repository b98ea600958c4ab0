use Rattle.model.specs.Oracle.{transit_count}
use mathlib.Core.Path.{ap}
use Rattle.reader.proofs.oracle.transit_count.Goals as goal

pub returns : goal.returns
unfolding transit_count
returns c = ap transit_count c.oracle_body.ensures
