-- `roads::Roads::left_arc` meets its contract: the arc of the edge, with the cost that is left.
use Prim.Native.Nat.{◌<◌}
use native.Mathlib.Omega.{arith}
use Rattle.model.specs.Network.{edge_count}
use Rattle.theory.specs.Sound.{edge_fine}
use Rattle.arcs.proofs.Passes.{left_over, left_recost, same_edge, two_ends}
use Rattle.arcs.proofs.Walked.{walked}
use Rattle.arcs.proofs.roads.Roads.left_arc.Goals as goal

pub arc_at-a-requires : goal.arc_at-a-requires
arc_at-a-requires c = ((walked c.args.self.now).roads.ends, λ l. (c.requires l).end)

pub returns-then-self-a : goal.returns-then-self-a
unfolding edge_count
returns-then-self-a c = left_over _ _ _ _ _ _ c.arc_at-a.ensures.0 c.if-self-a.true

pub cost_left-cost-requires : goal.cost_left-cost-requires
unfolding edge_count
cost_left-cost-requires c =
    let a = c.args.self.now in
    let g = walked a in
    let i : c.arc_at-a.result.edge < edge_count a.edges.now = omega (arith, c.if-self-a.false) in
    let f = edge_fine a.n a.edges.now g.roads.ends _ i in
    record { le_n = (two_ends f, a.few, a.enough, g.spanned); i_bound = i }

pub returns : goal.returns
unfolding edge_count
returns c =
    let e = same_edge _ _ _ _ _ _ c.arc_at-a.ensures.0 in
    let i : c.arc_at-a.result.edge < edge_count c.args.self.now.edges.now = omega (arith, c.if-self-a.false) in
    left_recost _ _ _ _ _ _ c.arc_at-a.ensures.0 c.arc_at-a.ensures.1 i (rw e (c.requires (omega (arith, c.if-self-a.false, e)))) _ c.cost_left-cost.ensures
