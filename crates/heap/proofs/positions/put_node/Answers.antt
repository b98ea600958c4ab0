-- `positions::put_node` meets its contract: the high half stays.
use Prim.Native.Nat.{◌+◌}
use native.Mathlib.Omega.{arith}
use mathlib.Core.Path.{refl}
use Rattle.heap.specs.Words.{put_node}
use Rattle.heap.proofs.positions.put_node.Goals as goal

pub overflow_mul-w : goal.overflow_mul-w
overflow_mul-w c = omega (arith, c.slice_known-1.given (c.args.n + c.args.i))

pub overflow_add-w-2 : goal.overflow_add-w-2
overflow_add-w-2 c = omega (arith, c.slice_known-1.given (c.args.n + c.args.i))

pub returns : goal.returns
unfolding put_node
returns c = refl
