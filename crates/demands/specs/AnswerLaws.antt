-- Which pairs are far, for the demands. Assumes nothing.
use Rattle.std.specs.Prelude.{ℕ, ◌+◌, ◌≤◌, ◌<◌, ◌≡◌, ◌↔◌, List}
use Rattle.std.proofs.Common.{arith, inl, inr, ⊎_elim}
use Rattle.std.proofs.Math.Decide.{dec_le}
use Rattle.model.specs.Network.{Node}
use Rattle.model.specs.Grid.{Cell, grid_over, gap, kind_of, outer_radius}
use Rattle.model.specs.declared.Division.{Division}
use Rattle.model.specs.declared.Kind.TheVariants.{Far}
use Rattle.theory.specs.GridLaws.{far_gap}
use Rattle.demands.specs.Outcomes.{FiveApart, FarCells}

-- ---- far and local
five_apart : (a b : ℕ) → (outer_radius < gap a b) ↔ FiveApart a b
unfolding gap
five_apart a b = (λ h. pick h (dec_le (a + 5) b), both)
  where
    pick : outer_radius < gap a b → Dec (a + 5 ≤ b) → FiveApart a b
    pick h (yes p) = inl p
    pick h (no p) = inr (omega arith)

    both : FiveApart a b → outer_radius < gap a b
    both (inl p) = omega arith
    both (inr p) = omega arith

pub far_cells : (dv : Division) (nodes : List Node) (c e : Cell) → (kind_of (grid_over dv nodes) c e ≡ Far) ↔ FarCells c e
unfolding grid_over
far_cells dv nodes c e =
    let x = five_apart c.column e.column in
    let y = five_apart c.row e.row in
    let far = far_gap (grid_over dv nodes) c e in
    (λ k. ⊎_elim (λ l. inl (x.0 l)) (λ r. inr (y.0 r)) (far.0 k), λ f. far.1 (⊎_elim (λ l. inl (x.1 l)) (λ r. inr (y.1 r)) f))
