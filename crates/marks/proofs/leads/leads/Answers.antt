-- `leads::leads` meets its contract: none of the arcs passed leads on, and one that does decides it.
use native.Mathlib.Omega.{arith}
use mathlib.Core.List.{[]}
use mathlib.Core.Path.{◌≡◌, ap, ◌∙◌}
use mathlib.Core.Bool.{Bool}
use Rattle.model.specs.Lists.{any}
use Rattle.model.specs.Bytes.{Bytes}
use Rattle.model.specs.Walk.{Arc}
use Rattle.sheet.specs.ArcsUnder.{arcs_under}
use Rattle.arcs.specs.Arcs.{arcs_in}
use Rattle.arcs.proofs.Bodies.{plain_arcs}
use Rattle.arcs.proofs.Tests.{unmet_first, unmet_next, met, unmet_last}
use Rattle.marks.proofs.Tight.{leading_from}
use Rattle.arcs.proofs.Passes.{first_arc_here, passes_first}
use Rattle.marks.proofs.leads.leads.Goals as goal

-- Without lines the arcs are those of the edges.
as_plain : (p : Arc → Bool) (edges : Bytes) → any p (arcs_under edges []) ≡ any p (arcs_in edges)
as_plain p edges = ap (any p) (plain_arcs edges)

pub loop-a-init : goal.loop-a-init
loop-a-init c = unmet_first _ _ _ _ _ _ _ (passes_first _ _ _ _ _ _ _
    (first_arc_here _ _ _ _ _ _ _ c.arc_at-a.ensures.0 c.first_edge-c.ensures.valid (λ z. omega (arith, z, c.arc_at-a.ensures.1)))
    c.first_edge-c.ensures)

pub returns-then-leads_to : goal.returns-then-leads_to
returns-then-leads_to c = met _ _ _ _ _ _ _ c.loop-a.invariant _ c.if-leads_to.true c.leads_to.ensures c.loop-a-test.true
    ∙ as_plain _ _

pub loop-a-preserved : goal.loop-a-preserved
loop-a-preserved c = unmet_next _ _ _ _ _ _ _ c.loop-a.invariant _ _ c.if-leads_to.false c.leads_to.ensures
    c.next_arc-a.ensures

pub returns : goal.returns
returns c = unmet_last _ _ _ _ _ _ _ c.loop-a.invariant (omega (arith, c.loop-a-test.false)) (leading_from _ _ _) ∙ as_plain _ _
