-- `ways::write_way_from` meets its contract: the way is found, then copied.
use native.Mathlib.Omega.{arith}
use Rattle.opened.proofs.WayNodes.{given_short, given_way, given_copy, found_room}
use Rattle.opened.proofs.ways.write_way_from.Goals as goal

pub returns-then-out-size : goal.returns-then-out-size
returns-then-out-size c = given_short _ _ c.whole_way-size.ensures.size.0 _ c.if-out-size.true

pub slice_bounds-nodes-end : goal.slice_bounds-nodes-end
slice_bounds-nodes-end c = found_room _ _ c.whole_way-size.ensures.size.0
    c.args.out.now _ _ c.whole_way-size.ensures.bytes

pub returns : goal.returns
returns c = given_way _ _ c.whole_way-size.ensures.size.0 _ _ (omega (arith, c.whole_way-size.ensures.size.0)) _ c.if-out-size.false
    (rw c.copy_from_slice.ensures.after (given_copy _ _ c.whole_way-size.ensures.size.0 _ _ _ c.whole_way-size.ensures.bytes))
