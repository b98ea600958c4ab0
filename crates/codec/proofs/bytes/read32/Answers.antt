use Rattle.model.specs.Bytes.{word16, word32}
use Rattle.std.proofs.Common.{arith, ◌≡◌, ◌+◌}
use Rattle.codec.proofs.bytes.read32.Goals as goal

pub returns : goal.returns
unfolding word32 word16
returns c =
    let third : c.args.i + 2 + 1 ≡ c.args.i + 3 = omega arith in
    rw third (omega arith)
