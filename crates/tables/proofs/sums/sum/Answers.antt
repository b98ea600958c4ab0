-- `sums::sum` meets its contract.
use native.Mathlib.Omega.{arith}
use Rattle.model.specs.Oracle.{value_key}
use Rattle.tables.proofs.sums.sum.Goals as goal

pub returns : goal.returns
unfolding value_key
returns c = omega arith
