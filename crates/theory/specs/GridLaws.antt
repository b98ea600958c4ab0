-- Every node lies in a cell of the grid, and which cells are far. Assumes nothing.
use Rattle.std.specs.Prelude.{ℕ, ◌+◌, ◌-◌, ◌*◌, ◌/◌, ◌≤◌, ◌<◌, ◌≡◌, ◌⊎◌, ◌↔◌, Bool, ◌&&◌, cond}
use Rattle.std.proofs.Common.{mul_comm, mul-lt-mul_of_pos_right, div-lt_iff_lt-mul, arith, sym, subst, ⊎_elim}
use Rattle.std.proofs.Math.Path.{refl}
use Rattle.std.proofs.Math.Logic.{inl, inr}
use Rattle.std.proofs.Math.Bool.{true, false}
use mathlib.Core.List.{List, map, Memᴰ}
use Rattle.std.proofs.Math.Dec.{leb}
use borrow.Author.Tests.{leb-true, leb-false}
use Rattle.model.specs.Network.{Node}
use Rattle.model.specs.Grid.{Grid, Cell, grid_over, cell_index, cell_of, gap, within, kind_of}
use Rattle.model.specs.declared.Division.{Division}
use Rattle.model.specs.declared.Kind.{Kind}
use Rattle.model.specs.declared.Kind.TheVariants.{Far, Local}
use Rattle.theory.specs.Members.{→map}
use Rattle.theory.specs.Extremes.{least_le, greatest_ge}

-- A coordinate no farther from the origin than the spread has an index below g.
pub index_below : (d g s : ℕ) → d ≤ s → 0 < g → d * g / (s + 1) < g
index_below d g s h k =
    (div-lt_iff_lt-mul {k = s + 1} {x = d * g} {y = g} (omega arith)).1
    (rw (mul_comm g (s + 1)) (mul-lt-mul_of_pos_right {m = d} {n = s + 1} {k = g} (omega arith) k))

module _ (dv : Division) (nodes : List Node) (p : 0 < dv.g) (v : Node) (m : Memᴰ v nodes) where
  pub column_below : (cell_of (grid_over dv nodes) v).column < dv.g
  unfolding cell_of cell_index grid_over
  column_below =
      let x = →map (λ (v : Node). v.x) nodes m in
      index_below (v.x - (grid_over dv nodes).left) dv.g (grid_over dv nodes).spread
      (omega (arith, least_le (map (λ v. v.x) nodes) x, greatest_ge (map (λ v. v.x) nodes) x)) p

  pub row_below : (cell_of (grid_over dv nodes) v).row < dv.g
  unfolding cell_of cell_index grid_over
  row_below =
      let y = →map (λ (v : Node). v.y) nodes m in
      index_below (v.y - (grid_over dv nodes).bottom) dv.g (grid_over dv nodes).spread
      (omega (arith, least_le (map (λ v. v.y) nodes) y, greatest_ge (map (λ v. v.y) nodes) y)) p

-- ---- far and local
abbrev IsFar : Kind → Type 0
IsFar Far = Unit {0}
IsFar Local = ⊥

local_far : Local ≡ Far → ⊥
local_far e = subst IsFar (sym e) tt

-- Two cells are far just when their columns or their rows differ by more than the outer radius.
module _ (grid : Grid) (c e : Cell) where
  abbrev across : ℕ
  across = gap e.column c.column

  abbrev up : ℕ
  up = gap e.row c.row

  pub far_gap : (kind_of grid c e ≡ Far) ↔ ((grid.outer < gap c.column e.column) ⊎ (grid.outer < gap c.row e.row))
  unfolding kind_of within gap
  far_gap = step (leb across grid.outer) (leb up grid.outer) refl refl
    where
      step : (p q : Bool) → leb across grid.outer ≡ p → leb up grid.outer ≡ q
          → (cond (p && q) Local Far ≡ Far) ↔ ((grid.outer < gap c.column e.column) ⊎ (grid.outer < gap c.row e.row))
      step true true a b = (
        λ h. absurd (local_far h),
        λ s. absurd (⊎_elim (λ l. omega (arith, leb-true across grid.outer a)) (λ r. omega (arith, leb-true up grid.outer b)) s),
      )
      step true false a b = (λ h. inr (omega (arith, leb-false up grid.outer b)), λ s. refl)
      step false q a b = (λ h. inl (omega (arith, leb-false across grid.outer a)), λ s. refl)
