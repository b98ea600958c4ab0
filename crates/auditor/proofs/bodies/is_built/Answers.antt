-- `bodies::is_built` meets its contract.
use mathlib.Core.Path.{refl, ◌∙◌}
use native.Mathlib.Omega.{arith}
use Rattle.auditor.proofs.BuiltBodies.{bodies_asked, bodies_told}
use Rattle.auditor.proofs.bodies.is_built.Goals as goal

pub body-requires : goal.body-requires
body-requires c = c.oracle_contents-c.ensures _ (omega arith)

pub body-requires-2 : goal.body-requires-2
body-requires-2 c = c.oracle_contents-c.ensures _ (omega arith)

pub body-requires-3 : goal.body-requires-3
body-requires-3 c = c.oracle_contents-c.ensures _ (omega arith)

pub body-requires-4 : goal.body-requires-4
body-requires-4 c = c.oracle_contents-c.ensures _ (omega arith)

pub body-requires-5 : goal.body-requires-5
body-requires-5 c = c.oracle_contents-c.ensures _ (omega arith)

pub invariant_of-ground : goal.invariant_of-ground
invariant_of-ground c =
    let a = c.args in
    let asked = bodies_asked a.o.now c.requires.0 c.grid_of-grid.result c.grid_of-grid.ensures _ _ c.body.ensures c.body-2.ensures _ refl a.n _ c.requires.1
    c.requires.2 in
    record { keeps = (asked.0, asked.1, asked.2) }

pub same_bodies-requires : goal.same_bodies-requires
same_bodies-requires c =
    let a = c.args in
    let asked = bodies_asked a.o.now c.requires.0 c.grid_of-grid.result c.grid_of-grid.ensures _ _ c.body.ensures c.body-2.ensures _ c.body-4.ensures a.n _
    c.requires.1 c.requires.2 in
    (asked.3, asked.4, asked.5)

pub returns : goal.returns
returns c =
    let a = c.args in
    let of_grid = bodies_told a.o.now c.requires.0 c.grid_of-grid.result c.grid_of-grid.ensures in
    let told = of_grid _ _ c.body.ensures c.body-2.ensures _ c.body-4.ensures (λ i. omega (arith, c.shared_slice_known-1.given i)) _ _ c.body-3.ensures
    c.body-5.ensures in
    record { same = c.same_bodies.ensures.same ∙ told; rest = c.same_bodies.ensures.rest }
