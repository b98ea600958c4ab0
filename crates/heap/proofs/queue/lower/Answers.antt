-- `queue::lower` meets its contract: the node rises from where it stands.
use Rattle.heap.proofs.ReachLaws.{stored, read_same, lower_from, lower_done}
use Rattle.model.specs.Oracle.{no_walk}
use native.Mathlib.Omega.{arith}
use Prim.Native.Nat.{◌<◌}
use Rattle.heap.proofs.queue.lower.Goals as goal

pub store_time-requires : goal.store_time-requires
store_time-requires c = (omega (arith, c.requires.0.positioned.size), c.requires.1, omega (arith, c.requires.0.reached c.args.v c.requires.1 c.requires.2))

pub position_of-p-requires : goal.position_of-p-requires
position_of-p-requires c =
    let a = c.args in
    let small : a.x < no_walk = omega (arith, c.requires.0.reached a.v c.requires.1 c.requires.2, c.requires.3) in
    (stored a.n a.k a.e a.v a.x a.w.now c.requires.0 c.requires.1 small _ c.store_time.ensures, c.requires.1)

pub up-requires : goal.up-requires
up-requires c =
    let a = c.args in
    let small : a.x < no_walk = omega (arith, c.requires.0.reached a.v c.requires.1 c.requires.2, c.requires.3) in
    let h = c.requires.0.held in
    let g = c.requires.0.room in
    let r = read_same a.n a.k a.e a.v a.x a.w.now c.requires.0 c.requires.1 small _ c.store_time.ensures _ c.position_of-p.ensures.0 in (
      stored a.n a.k a.e a.v a.x a.w.now c.requires.0 c.requires.1 small _ c.store_time.ensures,
      omega arith,
      omega arith,
      lower_from a.n a.k a.e a.v a.x a.w.now c.requires.0 c.requires.1 small _ c.store_time.ensures _ c.position_of-p.ensures.0 c.requires.2 c.requires.3,
    )

pub returns : goal.returns
returns c =
    let a = c.args in
    let small : a.x < no_walk = omega (arith, c.requires.0.reached a.v c.requires.1 c.requires.2, c.requires.3) in
    lower_done a.n a.k a.e a.v a.x a.w.now c.requires.0 c.requires.1 small _
    c.store_time.ensures _ c.position_of-p.ensures.0
    c.requires.2 c.requires.3 _ c.up.ensures
