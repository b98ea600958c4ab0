-- `halves::half_of` meets its contract: the low half of the word, or the high one.
use Prim.Native.Nat.{◌/◌}
use native.Mathlib.Omega.{arith}
use Rattle.words.proofs.HalfLaws.{half_shifted}
use Rattle.words.proofs.halves.half_of.Goals as goal

pub returns : goal.returns
returns c = (half_shifted c.args.w.now c.args.p (omega (arith, c.type_inv.w (c.args.p / 2))), omega arith)
