-- `leaving::arc_at` meets its contract: the edge has one arc that leaves u, to its other end.
use Prim.Native.Nat.{◌<◌}
use native.Mathlib.Omega.{arith}
use Rattle.model.specs.Network.{edge_count}
use Rattle.theory.specs.Sound.{edge_fine}
use Rattle.arcs.proofs.Passes.{left_none, plain_some}
use Rattle.arcs.proofs.leaving.arc_at.Goals as goal

pub returns-then-edges-i : goal.returns-then-edges-i
unfolding edge_count
returns-then-edges-i c = rw c.at.ensures (left_none _ _ _ _ _ c.if-edges-i.true, omega arith)

pub returns : goal.returns
unfolding edge_count
returns c =
    let a = c.args in
    let l : a.c.edge < edge_count a.edges.now = omega (arith, c.if-edges-i.false) in
    let f = edge_fine a.n a.edges.now c.requires.0 a.c.edge l in
    rw c.at-2.ensures (
      plain_some a.edges.now a.n a.u a.c c.requires.0 l (c.requires.1 l) _ _ _ _ c.read-edge.ensures.first.0
          c.read-edge.ensures.second.0
          c.other_end-to.ensures c.edge_key-cost.ensures.0,
      omega (arith, f.at_most, c.edge_key-cost.ensures.0),
    )
