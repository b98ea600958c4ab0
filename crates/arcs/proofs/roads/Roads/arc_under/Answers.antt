-- `roads::Roads::arc_under` meets its contract: without lines every edge is left as it is.
use native.Mathlib.Omega.{arith}
use Rattle.arcs.proofs.Passes.{no_bytes, first_arc_here}
use Rattle.arcs.proofs.Walked.{walked}
use Rattle.arcs.proofs.roads.Roads.arc_under.Goals as goal

pub arc_at-requires : goal.arc_at-requires
arc_at-requires c = ((walked c.args.self.now).roads.ends, λ l. (c.requires.valid.here l).end)

pub returns-then-self-eq0 : goal.returns-then-self-eq0
returns-then-self-eq0 c = rw (no_bytes c.args.self.now.lines.now c.if-self-eq0.true)
    (first_arc_here _ _ _ _ _ _ _ c.arc_at.ensures.0 c.requires.valid (λ z. omega (arith, z, c.arc_at.ensures.1)))
