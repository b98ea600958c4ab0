-- `values::read_value` meets its contract.
use Rattle.std.proofs.Common.{ap, arith}
use Rattle.model.specs.Oracle.{decoded, value_key, value}
use Rattle.codec.proofs.values.read_value.Goals as goal

pub returns : goal.returns
unfolding value value_key
returns c = (ap decoded (omega arith), omega arith)
