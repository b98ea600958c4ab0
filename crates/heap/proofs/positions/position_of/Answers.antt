-- `positions::position_of` meets its contract: the high half of the word.
use Prim.Native.Nat.{◌+◌}
use native.Mathlib.Omega.{arith}
use mathlib.Core.Path.{refl}
use Rattle.heap.specs.Words.{position}
use Rattle.heap.proofs.positions.position_of.Goals as goal

pub overflow_cast-result : goal.overflow_cast-result
overflow_cast-result c = omega (arith, c.type_inv.w (c.args.n + c.args.v))

pub returns : goal.returns
unfolding position
returns c = (refl, c.requires.0.positions c.args.v c.requires.1)
