-- `leaving::next_arc` meets its contract: the arc of the next edge.
use native.Mathlib.Omega.{arith}
use Rattle.arcs.proofs.Passes.{first_arc_here, passes_next}
use Rattle.arcs.proofs.leaving.next_arc.Goals as goal

pub returns : goal.returns
returns c =
    let a = c.args in
    let first = first_arc_here _ _ _ _ _ _ _ c.arc_at.ensures.0 c.next_edge-c.ensures.valid (λ z. omega (arith, z, c.arc_at.ensures.1)) in
    passes_next _ _ _ _ _ _ _ first a.a c.requires.valid_arc.0.found c.requires.valid_arc.1 (rw c.cursor.ensures at c.next_edge-c.ensures)
