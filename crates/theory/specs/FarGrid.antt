-- Squares of cells on a grid satisfy the premises of the far theorem, for all radii r and R with R ≥ 2 r.
-- Assumes nothing.
use Rattle.std.specs.Prelude.{◌≡◌, ◌⊎◌, ◌↔◌, true, false, ◌&&◌, List, ℕ, ◌+◌, ◌*◌, ◌≤◌, ◌<◌, leb}
use Rattle.std.proofs.Common.{inl, inr, arith}
use Rattle.std.proofs.Math.Logic.{⊎_elim}
use Rattle.theory.specs.Tests.{leb-true, true-leb, refuted, both, and}
use Rattle.model.specs.Walk.{LeastOf, Arc, Least}
use Rattle.model.specs.Grid.{gap}
use Rattle.theory.specs.Far.{Square, Nest, Via, far_least}

-- ---- the grid: each node has a column and a row
gap_self : (a : ℕ) → gap a a ≤ 0
unfolding gap
gap_self a = omega arith

gap_comm : (a b : ℕ) → gap a b ≤ gap b a
unfolding gap
gap_comm a b = omega arith

gap_join : (x a b : ℕ) → gap a b ≤ gap x a + gap x b
unfolding gap
gap_join x a b = omega arith

-- the nodes whose column and row each differ from c's by at most r
unfoldable pub square : (ℕ → ℕ) → (ℕ → ℕ) → ℕ → ℕ → Square
square col row r c x = leb (gap (col x) (col c)) r && leb (gap (row x) (row c)) r

-- s and t are far apart: their columns or their rows differ by more than R
abbrev pub Apart : (ℕ → ℕ) → (ℕ → ℕ) → ℕ → ℕ → ℕ → Type 0
Apart col row R s t = (R < gap (col s) (col t)) ⊎ (R < gap (row s) (row t))

pub record Near (col row : ℕ → ℕ) (r c x : ℕ) : Type 0 where
  pub cols : gap (col x) (col c) ≤ r
  pub rows : gap (row x) (row c) ≤ r

module _ (col row : ℕ → ℕ) where
  pub square→ : (r c x : ℕ) → square col row r c x ≡ true → Near col row r c x
  unfolding square
  square→ r c x e = let h = both e in record { cols = leb-true h.0; rows = leb-true h.1 }

  pub →square : (r c x : ℕ) → Near col row r c x → square col row r c x ≡ true
  unfolding square
  →square r c x h = and (true-leb (gap (col x) (col c)) r h.cols) (true-leb (gap (row x) (row c)) r h.rows)

  module _ (r R s t : ℕ) (wide : 2 * r ≤ R) where
    near_both : (x : ℕ) → Near col row r s x → Near col row r t x → Apart col row R s t → ⊥
    near_both x p q (inl h) = omega (arith, gap_join (col x) (col s) (col t))
    near_both x p q (inr h) = omega (arith, gap_join (row x) (row s) (row t))

    off : Near col row R s t → Apart col row R s t → ⊥
    off p (inl h) = omega (arith, gap_comm (col s) (col t))
    off p (inr h) = omega (arith, gap_comm (row s) (row t))

    wider : (r' R' c x : ℕ) → r' ≤ R' → square col row r' c x ≡ true → square col row R' c x ≡ true
    wider r' R' c x h e = let p = square→ r' c x e in →square R' c x (record { cols = omega arith; rows = omega arith })

    pub nest : Apart col row R s t → Nest (square col row 0 s) (square col row r s) (square col row R s) s t
    nest a = record {
      cell = λ x e. wider 0 r s x (omega arith) e;
      inner = λ x e. wider r R s x (omega arith) e;
      at_home = →square 0 s s (record { cols = gap_self (col s); rows = gap_self (row s) });
      far_off = refuted (λ e. off (square→ R s t e) a);
    }

    pub disjoint : Apart col row R s t → (x : ℕ) → square col row r s x ≡ true → square col row r t x ≡ false
    disjoint a x p = refuted (λ e.
        let there = square→ r s x p in
        let here = square→ r t x e in
        ⊎_elim (λ h. omega (arith, gap_join (col x) (col s) (col t))) (λ h. omega (arith, gap_join (row x) (row s) (row t))) a)

  pub swap : (R s t : ℕ) → Apart col row R s t → Apart col row R t s
  swap R s t (inl h) = inl (omega (arith, gap_comm (col s) (col t)))
  swap R s t (inr h) = inr (omega (arith, gap_comm (row s) (row t)))

  -- the far theorem on a grid
  pub grid_far :
      (arcs : List Arc) (pick : Arc → ℕ) → ((a : Arc) → (pick a ≡ a.from) ⊎ (pick a ≡ a.to)) →
      (r R s t : ℕ) {n : ℕ} → 2 * r ≤ R → Apart col row R s t →
      Least arcs s t n ↔
      LeastOf (Via arcs pick (square col row 0 s) (square col row r s) (square col row R s) (square col row 0 t) (square col row r t) (square col row R t) s t)
      n
  grid_far arcs pick ends r R s t wide a = far_least arcs pick ends (nest r R s t wide a) (nest r R t s wide (swap R s t a)) (disjoint r R s t wide a)
