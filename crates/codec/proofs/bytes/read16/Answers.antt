use Rattle.model.specs.Bytes.{word16}
use Rattle.std.proofs.Common.{arith, ◌+◌}
use Rattle.codec.proofs.bytes.read16.Goals as goal

pub returns : goal.returns
unfolding word16
returns c = omega (arith, c.type_inv.b c.args.i, c.type_inv.b (c.args.i + 1))
