-- `network::leave_out` meets its contract. Assumes nothing.
use native.Mathlib.Omega.{arith}
use Rattle.convert.proofs.Leaving.{length_open}
use Rattle.convert.proofs.Results.{length_network, given_short, given_whole}
use Rattle.convert.proofs.network.leave_out.Goals as goal

pub overflow_sub-left : goal.overflow_sub-left
overflow_sub-left c = (length_open _ _ c.requires).0

pub returns-then-out-size : goal.returns-then-out-size
returns-then-out-size c =
    let a = c.args in
    let left = (length_open a.edges.now a.closed.now c.requires).1 in
    given_short _ _ _ (omega (arith, left, length_network a.nodes.now a.edges.now a.closed.now)) c.if-out-size.true

pub write_network-requires : goal.write_network-requires
write_network-requires c =
    let a = c.args in
    let left = (length_open a.edges.now a.closed.now c.requires).1 in
    record { old_bodies = (c.requires, left); left_in_bounds = (omega (arith, c.if-out-size.false), omega arith) }

pub returns : goal.returns
returns c =
    let a = c.args in
    let left = (length_open a.edges.now a.closed.now c.requires).1 in
    given_whole _ _ _ (omega (arith, left, length_network a.nodes.now a.edges.now a.closed.now)) c.if-out-size.false c.write_network.ensures
