-- `bits::settled` meets its contract: the shift and the mask are the bit.
use Prim.Native.Nat.{ℕ, ◌/◌, ◌%◌, ◌^◌}
use mathlib.Core.Path.{ap}
use lib.Bits.{and_mask}
use lib.Dec.{eqb}
use lib.ListN.{get_or}
use Rattle.bitset.specs.Bits.{is_in}
use Rattle.bitset.proofs.bits.contains.Goals as goal

pub returns : goal.returns
unfolding is_in
returns c = ap (λ (x : ℕ). eqb x 1) (and_mask (get_or c.args.s.now (c.args.v / 32) 0 / 2 ^ (c.args.v % 32)) 1)
