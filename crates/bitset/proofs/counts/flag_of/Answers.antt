-- `counts::flag_of` meets its contract. Assumes nothing.
use Rattle.std.proofs.Common.{arith}
use Rattle.std.proofs.lemmas.Grind.{common_steps}
use Rattle.bitset.specs.Bits.{flag}
use Rattle.bitset.proofs.counts.flag_of.Goals as goal

pub returns : goal.returns
unfolding flag
returns c = grind (arith, common_steps)
