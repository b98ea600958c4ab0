-- `ways::write_way_to` meets its contract.
use mathlib.Core.Path.{refl}
use native.Mathlib.Omega.{arith}
use Rattle.opened.proofs.StoppedWays.{stopped_way, way_itself}
use Rattle.sheet.specs.ArcsUnder.{arcs_under}
use Rattle.arcs.proofs.Kept.{edges_behind}
use Rattle.arcs.proofs.Bodies.{arcs_bounded}
use Rattle.opened.proofs.ways.write_way_to.Goals as goal

pub returns-then-s-t : goal.returns-then-s-t
returns-then-s-t c =
    let a = c.args in
    record {
      given = rw (
        ← c.if-s-t.true,
        way_itself (arcs_under a.edges.now a.lines.now) a.n
            (arcs_bounded _ _ _ _ c.requires.4).within a.s c.requires.1,
      )
          c.write_way_itself.ensures;
      others = refl;
    }

pub invariant_of-roads : goal.invariant_of-roads
invariant_of-roads c = record {
  few = c.requires.0;
  enough = omega (arith, c.requires.3, c.search_to.auto.work);
  under = ∣ edges_behind _ _ _ _ _ c.search_to.ensures.others c.requires.4 ∣₁;
}

pub returns : goal.returns
returns c =
    let a = c.args in
    let e = stopped_way (arcs_under a.edges.now a.lines.now) a.n (arcs_bounded _ _ _ _ c.requires.4) a.s a.t c.requires.1 c.requires.2 _ _
    c.search_to.ensures.found in
    record { given = rw (← e) c.write_way_from.ensures; others = c.search_to.ensures.others }
