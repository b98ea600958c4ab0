-- The transit nodes, each cell taken once, by its first node. Assumes nothing.
use Rattle.std.specs.Prelude.{ℕ, suc, ◌<◌, ◌≡◌, true, length, get_or}
use Rattle.std.proofs.Common.{arith, sym, ◌∙◌}
use Rattle.std.proofs.Math.Path.{ap}
use mathlib.Core.List.Memᴰ
use mathlib.Core.List.{List, map, Memᴰ}
use Rattle.model.specs.Lists.{any, filter, member, up_to}
use Rattle.model.specs.Grid.{Cell, cell_at}
use Rattle.model.specs.Access.{transit_nodes}
use Rattle.theory.specs.Members.{filter→, →filter, any→, →any, map→, →map, →up_to, range→, get_d_mem}
use Rattle.theory.specs.Transit.{filter_same}
use Rattle.crossing.specs.Cells.{first_of_cell, first_found}
use Rattle.theory.specs.Tests.{same_test}

index_at : {A : Type 0} (d : A) {x : A} {l : List A} → Memᴰ x l → (i : ℕ) × (i < length l) × (get_or l i d ≡ x)
index_at d (Memᴰ.head e) = (0, omega arith, sym e)
index_at d (Memᴰ.tail m) = let (i, h, e) = index_at d m in (suc i, omega arith, e)

module _ (cs : List Cell) (f : Cell → List ℕ) where
  -- The nodes that are the first of their cells.
  abbrev pub firsts : List ℕ
  firsts = filter (first_of_cell cs) (up_to (length cs))

  at_first : (l : List ℕ) → Memᴰ l (map f cs) → Memᴰ l (map (λ u. f (cell_at cs u)) firsts)
  unfolding cell_at
  at_first l m =
      let (c, i, e) = map→ f cs m in
      let (u, b, q) = index_at (record { column = 0; row = 0 }) i in
      let (v, k, g, p) = first_found cs u in
      let r : f c ≡ f (cell_at cs v) = ap f (sym (p ∙ q)) in
      Memᴰ.cast (e ∙ r) (→map (λ u. f (cell_at cs u)) firsts (→filter (first_of_cell cs) (up_to (length cs)) (→up_to (length cs) v (omega arith)) g))

  of_first : (l : List ℕ) → Memᴰ l (map (λ u. f (cell_at cs u)) firsts) → Memᴰ l (map f cs)
  unfolding cell_at
  of_first l m =
      let (u, i, e) = map→ (λ u. f (cell_at cs u)) firsts m in
      let k = range→ 0 (length cs) u (filter→ (first_of_cell cs) (up_to (length cs)) i).0 in
      Memᴰ.cast e (→map f cs (get_d_mem cs u _ (omega arith)))

  moved : (xs ys : List (List ℕ)) → ((l : List ℕ) → Memᴰ l xs → Memᴰ l ys) → (a : ℕ) → any (member a) xs ≡ true → any (member a) ys ≡ true
  moved xs ys k a h = let (l, m, e) = any→ (member a) xs h in →any (member a) ys (k l m) e

  pub transit_firsts : (n : ℕ) → transit_nodes n (map f cs) ≡ transit_nodes n (map (λ u. f (cell_at cs u)) firsts)
  unfolding transit_nodes
  transit_firsts n = filter_same _ _ (up_to n) (λ a. same_test (moved _ _ at_first a) (moved _ _ of_first a))
