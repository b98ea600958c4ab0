-- `builder::whole::put_front` meets its contract. Assumes nothing.
use native.Mathlib.Omega.{arith}
use Rattle.builder.proofs.Joins.{front_ends, front_written}
use Rattle.builder.proofs.whole.put_front.Goals as goal

pub put_grid-requires : goal.put_grid-requires
put_grid-requires c =
    let a = c.args in
    omega (arith, front_ends a.network.now a.dv a.sizes c.requires.0 c.put_network-at.ensures)

pub returns : goal.returns
returns c =
    let a = c.args in
    front_written a.network.now a.dv a.sizes c.requires.0
    c.put_head.ensures
    c.put_network-at.ensures c.put_grid.ensures c.requires.1
