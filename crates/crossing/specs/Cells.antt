-- Nodes of one cell, and the first node of each cell; `cs` are the nodes' cells. Assumes nothing.
use Prim.Native.Nat.{ℕ, zero, suc, ◌≤◌, ◌<◌}
use native.Mathlib.Omega.{arith}
use Rattle.std.specs.Prelude.{◌≡◌, ◌↔◌, Bool, ◌&&◌, List}
use Rattle.std.proofs.Math.Path.{refl, sym, ap}
use Rattle.std.proofs.Common.{◌∙◌}
use Rattle.std.proofs.Math.Bool.{true, false, not, false≢true}
use Rattle.std.proofs.lemmas.Bool.{not-true}
use Rattle.std.proofs.Math.Dec.{eqb}
use Rattle.model.specs.Lists.{any, up_to}
use Rattle.model.specs.Grid.{Cell, cell_at}
use Rattle.theory.specs.Tests.{and, both, eqb-true, true-eqb, refuted}
use Rattle.theory.specs.Members.{any→, →any, →up_to, range→}

-- The cells of the nodes u and v are the same.
unfoldable pub same_cell : List Cell → ℕ → ℕ → Bool
same_cell cs u v = eqb (cell_at cs u).column (cell_at cs v).column && eqb (cell_at cs u).row (cell_at cs v).row

-- No node below u has its cell.
unfoldable pub first_of_cell : List Cell → ℕ → Bool
first_of_cell cs u = not (any (same_cell cs u) (up_to u))

module _ (cs : List Cell) where
  pub same_cell_law : (u v : ℕ) → (same_cell cs u v ≡ true) ↔ (cell_at cs u ≡ cell_at cs v)
  unfolding same_cell
  same_cell_law u v = (equal, λ e. and (true-eqb (ap (λ (c : Cell). c.column) e)) (true-eqb (ap (λ (c : Cell). c.row) e)))
    where
      equal : eqb (cell_at cs u).column (cell_at cs v).column && eqb (cell_at cs u).row (cell_at cs v).row ≡ true → cell_at cs u ≡ cell_at cs v
      equal h =
          let b = both {b = eqb (cell_at cs u).column (cell_at cs v).column} h in
          let x : (cell_at cs u).column ≡ (cell_at cs v).column = eqb-true b.0 in
          let y : (cell_at cs u).row ≡ (cell_at cs v).row = eqb-true b.1 in
          λ i. record { column = x i; row = y i }

  pub first_of_cell_law : (u : ℕ) → (first_of_cell cs u ≡ true) ↔ ((v : ℕ) → v < u → cell_at cs u ≡ cell_at cs v → ⊥)
  unfolding first_of_cell
  first_of_cell_law u = (
    λ h v l e. false≢true (sym (not-true (any (same_cell cs u) (up_to u)) h) ∙ →any (same_cell cs u) (up_to u) (→up_to u v l) ((same_cell_law u v).1 e)),
    λ h. ap not (refuted (λ e. let (v, m, f) = any→ (same_cell cs u) (up_to u) e in h v (omega (arith, range→ 0 u v m)) ((same_cell_law u v).0 f))),
  )

  -- Each node has a first node of its cell.
  abbrev pub First : ℕ → Type 0
  First u = (v : ℕ) × (v ≤ u) × (first_of_cell cs v ≡ true) × (cell_at cs v ≡ cell_at cs u)

  earlier : (k u : ℕ) → u ≤ k → First u
  unfolding first_of_cell
  earlier zero u h = (u, omega arith, (first_of_cell_law u).1 (λ v l. absurd (omega arith)), refl)
  earlier (suc k) u h = step (any (same_cell cs u) (up_to u)) refl (λ v l. earlier k v (omega arith))
    where
      step : (b : Bool) → any (same_cell cs u) (up_to u) ≡ b → ((v : ℕ) → v < u → First v) → First u
      step true e find =
          let (v, m, f) = any→ (same_cell cs u) (up_to u) e in
          let l : v < u = omega (arith, range→ 0 u v m) in
          let (w, p, g, q) = find v l in
          (w, omega arith, g, q ∙ sym ((same_cell_law u v).0 f))
      step false e find = (u, omega arith, ap not e, refl)

  pub first_found : (u : ℕ) → First u
  first_found u = earlier u u (omega arith)
