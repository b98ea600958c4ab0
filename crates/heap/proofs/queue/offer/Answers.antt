-- `queue::offer` meets its contract: the node is lowered or enters.
use Rattle.heap.proofs.ReachLaws.{offer_less}
use native.Mathlib.Omega.{arith}
use Rattle.heap.proofs.queue.offer.Goals as goal

pub lower-requires : goal.lower-requires
lower-requires c = (c.requires.0, c.requires.1, omega (arith, c.position_of.ensures.0, c.if-position_of-k.true), c.requires.3)

pub returns-then-position_of-k : goal.returns-then-position_of-k
returns-then-position_of-k c =
    let a = c.args in
    offer_less a.n a.e a.v a.x a.w.now c.requires.1 c.requires.3 _ _ c.lower.ensures.went

pub returns : goal.returns
returns c =
    let a = c.args in
    offer_less a.n a.e a.v a.x a.w.now c.requires.1 c.requires.3 _ _ c.enter.ensures.went
