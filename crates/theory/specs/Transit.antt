-- The transit nodes of all cells, empty ones included, are those of the nodes' cells. Assumes nothing.
use Rattle.std.specs.Prelude.{ℕ, ◌≤◌, ◌<◌, ◌≡◌, refl, ◌⊎◌, Bool, true, false, length, leb}
use Rattle.std.proofs.Common.{arith, sym, inl, inr, true≢false}
use Rattle.std.proofs.Math.Logic.{⊎_elim}
use Rattle.std.proofs.Math.Bool.{xor}
use mathlib.Core.List.{List, [], ◌∷◌, map, Memᴰ}
use Rattle.std.proofs.lemmas.List.{length-map}
use Rattle.model.specs.Lists.{filter, any, member, up_to, concat_map}
use Rattle.model.specs.Network.{Edge, Network, order, distance}
use Rattle.model.specs.Grid.{Grid, Cell, grid_over, cells, cell_of, cell_at, gap, within}
use Rattle.model.specs.Access.{crossing_end, crosses, crossings, access_nodes, access_lists, transit_nodes}
use Rattle.model.specs.declared.Division.{Division}
use Rattle.theory.specs.Tests.{both, leb-true, same_test}
use Rattle.theory.specs.Members.{filter→, any→, →any, map→, →map, →concat_map, get_d_mem, member→, →member, →up_to}
use Rattle.theory.specs.GridLaws.{column_below, row_below}

-- Two tests that pass the same elements leave the same list.
pub filter_same : {A : Type 0} (p q : A → Bool) (l : List A) → ((x : A) → p x ≡ q x) → filter p l ≡ filter q l
unfolding filter
filter_same p q [] h = refl
filter_same p q (x ∷ l) h = rw (h x, filter_same p q l h)

-- One of two that differ holds.
pub one_of : (b c : Bool) → xor b c ≡ true → (b ≡ true) ⊎ (c ≡ true)
unfolding xor
one_of true c h = inl refl
one_of false true h = inr refl
one_of false false h = absurd (true≢false (sym h))

zero_gap : (a b : ℕ) → gap a b ≤ 0 → b ≡ a
unfolding gap
zero_gap a b h = omega arith

-- The square of radius 0 about a cell is that cell.
same_cell_law : (c e : Cell) → within 0 c e ≡ true → c ≡ e
unfolding within
same_cell_law c e h =
    let b = both {b = leb (gap e.column c.column) 0} h in
    let x : c.column ≡ e.column = zero_gap e.column c.column (leb-true b.0) in
    let y : c.row ≡ e.row = zero_gap e.row c.row (leb-true b.1) in
    λ i. record { column = x i; row = y i }

-- All cells of a grid of g × g.
unfoldable pub all_cells : ℕ → List Cell
all_cells g = concat_map (λ x. map (λ y. record { column = x; row = y }) (up_to g)) (up_to g)

in_grid : (g : ℕ) (c : Cell) → c.column < g → c.row < g → Memᴰ c (all_cells g)
unfolding all_cells
in_grid g c x y =
    →concat_map (λ x. map (λ y. record { column = x; row = y }) (up_to g)) (up_to g) (→up_to g c.column x)
    (→map (λ y. record { column = c.column; row = y }) (up_to g) (→up_to g c.row y))

module _ (net : Network) (ends : (e : Edge) → Memᴰ e net.edges → (e.first < order net) × (e.second < order net)) (dv : Division) (p : 0 < dv.g) where
  abbrev pub grid : Grid
  grid = grid_over dv net.nodes

  abbrev cs : List Cell
  cs = cells grid net.nodes

  -- The access nodes of any cell.
  abbrev pub access_of : Cell → List ℕ
  access_of c = access_nodes (distance net) grid cs net.edges c

  cell_of_node : (v : ℕ) → v < order net → Memᴰ (cell_at cs v) cs
  unfolding cell_at cells order
  cell_of_node v h = get_d_mem cs v (record { column = 0; row = 0 }) (rw (length-map net.nodes (cell_of grid)) h)

  -- A cell with an access node has a node.
  has_node : (c : Cell) (a : ℕ) → Memᴰ a (access_of c) → Memᴰ c cs
  unfolding access_nodes crossings crosses
  has_node c a m =
      let passed = filter→ _ (up_to (length cs)) m in
      let found = any→ _ (crossings cs net.edges 0 c) (both {b = member a (crossings cs net.edges grid.inner c)} passed.1).1 in
      let edge = map→ crossing_end _ found.1 in
      let crossing = filter→ (crosses cs 0 c) net.edges edge.1 in
      let e = edge.0 in
      ⊎_elim
      (λ h. mathlib.Core.List.Memᴰ.cast (same_cell_law c (cell_at cs e.first) h) (cell_of_node e.first (ends e crossing.0).0))
      (λ h. mathlib.Core.List.Memᴰ.cast (same_cell_law c (cell_at cs e.second) h) (cell_of_node e.second (ends e crossing.0).1))
      (one_of (within 0 c (cell_at cs e.first)) (within 0 c (cell_at cs e.second)) crossing.1)

  -- A node's cell is one of the grid.
  node_in_grid : (c : Cell) → Memᴰ c cs → Memᴰ c (all_cells dv.g)
  unfolding cells
  node_in_grid c m =
      let v = map→ (cell_of grid) net.nodes m in
      mathlib.Core.List.Memᴰ.cast v.2 (in_grid dv.g (cell_of grid v.0) (column_below dv net.nodes p v.0 v.1) (row_below dv net.nodes p v.0 v.1))

  listed : (xs ys : List Cell) → ((c : Cell) (a : ℕ) → Memᴰ c xs → Memᴰ a (access_of c) → Memᴰ c ys) → (a : ℕ)
      → any (member a) (map access_of xs) ≡ true → any (member a) (map access_of ys) ≡ true
  listed xs ys k a h =
      let l = any→ (member a) (map access_of xs) h in
      let c = map→ access_of xs l.1 in
      let m : Memᴰ a (access_of c.0) = member→ a (access_of c.0) (rw (← c.2) l.2) in
      →any (member a) (map access_of ys) (→map access_of ys (k c.0 a c.1 m)) (→member a (access_of c.0) m)

  pub transit_all : transit_nodes (order net) (map access_of (all_cells dv.g)) ≡ transit_nodes (order net) (access_lists net grid)
  unfolding transit_nodes access_lists
  transit_all = filter_same _ _ (up_to (order net)) (λ a. same_test (listed (all_cells dv.g) cs (λ c a m n. has_node c a n) a)
      (listed cs (all_cells dv.g) (λ c a m n. node_in_grid c m) a))
