-- `queue::enter` meets its contract: the node comes behind the heap, and rises.
use Rattle.heap.proofs.ReachLaws.{stored, enter_from, enter_done}
use native.Mathlib.Omega.{arith}
use borrow.Author.Rules.{rules}
use Rattle.heap.proofs.queue.enter.Goals as goal

pub position_of-p-requires : goal.position_of-p-requires
position_of-p-requires c =
    let a = c.args in
    (stored a.n a.k a.e a.v a.x a.w.now c.requires.0 c.requires.1 c.requires.4 _ c.store_time.ensures, c.requires.1)

pub swap-requires : goal.swap-requires
swap-requires c =
    let a = c.args in
    let g = c.requires.0.room in (
      stored a.n a.k a.e a.v a.x a.w.now c.requires.0 c.requires.1 c.requires.4 _ c.store_time.ensures,
      omega arith,
      c.position_of-p.ensures.1,
    )

pub overflow_add-k : goal.overflow_add-k
overflow_add-k c =
    let g = c.requires.0.room in
    search rules

pub up-requires : goal.up-requires
up-requires c =
    let a = c.args in
    let g = c.requires.0.room in
    let f = enter_from a.n a.k a.e a.v a.x a.w.now c.requires.0 c.requires.1 c.requires.4 _
    c.store_time.ensures _
    c.position_of-p.ensures.0 c.requires.2 c.requires.3 _ c.swap.ensures in
    (f.0, omega arith, omega arith, f.1)

pub returns : goal.returns
returns c =
    let a = c.args in
    enter_done a.n a.k a.e a.v a.x a.w.now c.requires.0 c.requires.1 c.requires.4 _
    c.store_time.ensures _
    c.position_of-p.ensures.0 c.requires.2 c.requires.3 _
    c.swap.ensures _ c.up.ensures
