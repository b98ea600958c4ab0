-- Tests of all numbers below n, and the lists of the nodes tested cell by cell. Assumes nothing.
use Prim.Native.Nat.{ℕ, ◌+◌, ◌≤◌, ◌<◌}
use native.Mathlib.Omega.{arith}
use mathlib.Core.Path.{◌≡◌, ◌∙◌, ap}
use mathlib.Core.Bool.{Bool, true, false, not, ◌||◌, or-true}
use mathlib.Core.List.Memᴰ
use mathlib.Core.List.{List, [], ◌∷◌, Memᴰ}
use Rattle.model.specs.Lists.{all, up_to}
use Rattle.model.specs.Bytes.{Bytes}
use Rattle.model.specs.Network.{node_count}
use Rattle.model.specs.Grid.{Cell}
use Rattle.theory.specs.Tests.{both, same_test}
use Rattle.theory.specs.RangeLaws.{rest, rest_all, all_step, all_end}
use Rattle.theory.specs.Members.{→up_to, range→}
use Rattle.theory.specs.Shape.{all_of}
use Rattle.grid.specs.declared.Grid.{Grid}
use Rattle.crossing.specs.Ground.{cells_in}
use Rattle.crossing.specs.Cells.{same_cell, first_of_cell, same_cell_law, first_found}
use Rattle.auditor.specs.Same.{same_list, same_beside, same_of_cell, same_lists}

module _ (p : ℕ → Bool) where
  all→ : (l : List ℕ) → all p l ≡ true → {x : ℕ} → Memᴰ x l → p x ≡ true
  unfolding all
  all→ [] h m = absurd (Memᴰ.not-nil m)
  all→ (y ∷ l) h (Memᴰ.head e) = rw e (both {b = p y} h).0
  all→ (y ∷ l) h (Memᴰ.tail m) = all→ l (both {b = p y} h).1 m

  pub below→ : (n : ℕ) → all p (up_to n) ≡ true → (v : ℕ) → v < n → p v ≡ true
  below→ n h v l = all→ (up_to n) h (→up_to n v l)

  pub →below : (n : ℕ) → ((v : ℕ) → v < n → p v ≡ true) → all p (up_to n) ≡ true
  →below n h = all_of p (up_to n) (λ v m. h v (omega (arith, range→ 0 n v m)))

-- The same by a loop: the tests of the numbers from i on are left.
module _ (p : ℕ → Bool) (n : ℕ) where
  abbrev whole : Bool
  whole = all p (up_to n)

  pub left_all : whole ≡ all p (rest 0 n)
  left_all = ap (all p) (rest_all n)

  module _ (i : ℕ) (left : whole ≡ all p (rest i n)) where
    pub left_fails : i < n → p i ≡ false → whole ≡ false
    left_fails h e = left ∙ (all_step p i n h ∙ rw e)

    pub left_goes : i < n → p i ≡ true → whole ≡ all p (rest (i + 1) n)
    left_goes h e = left ∙ (all_step p i n h ∙ rw e)

    pub left_none : n ≤ i → whole ≡ true
    left_none h = left ∙ all_end p i n h

-- A test that is asked where another passes.
asked : (b c : Bool) → b ≡ true → not b || c ≡ true → c ≡ true
asked b c e h = rw e at h

-- Each node has the cell of a first one, so that testing cell by cell tests all lists.
module _ (nodes edges : Bytes) (grid : Grid) (access : Bytes) where
  abbrev n : ℕ
  n = node_count nodes

  abbrev cs : List Cell
  cs = cells_in grid nodes

  by_cells : all (same_of_cell nodes edges grid access) (up_to n) ≡ same_lists nodes edges grid access
  unfolding same_lists same_of_cell same_beside
  by_cells = same_test (λ h. →below _ n (λ v l. let (u, m, f, q) = first_found cs v in
      let c : all (same_beside nodes edges grid access u) (up_to n) ≡ true = asked (first_of_cell cs u) _ f
      (below→ (same_of_cell nodes edges grid access) n h u (omega arith)) in
      asked (same_cell cs u v) _ ((same_cell_law cs u v).1 q) (below→ (same_beside nodes edges grid access u) n c v l)))
      (λ h. →below _ n (λ u m. let c : all (same_beside nodes edges grid access u) (up_to n) ≡ true =
      →below _ n (λ v l. rw (below→ (same_list nodes edges grid access) n h v l) (or-true (not (same_cell cs u v)))) in
      rw c (or-true (not (first_of_cell cs u)))))

  pub by_cells_to : (m : ℕ) → m ≡ node_count nodes → all (same_of_cell nodes edges grid access) (up_to m) ≡ same_lists nodes edges grid access
  by_cells_to m e = rw e by_cells
