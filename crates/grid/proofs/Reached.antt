-- A node lies in a square of cells exactly where the square's coordinates reach over it. Assumes nothing.
use Rattle.std.proofs.Common.{◌≡◌, ℕ, suc, ◌+◌, ◌-◌, ◌*◌, ◌/◌, ◌%◌, ◌<◌, ◌≤◌, min, leb, ◌↔◌, suc-mul, mul_comm, div-lt_iff_lt-mul, mul-le-mul, le-div_iff_mul-le, div-mul-le_self, arith, ltb-true, lt-ltb, le-leb, leb-true}
use Rattle.model.specs.Bytes.{Bytes}
use Rattle.model.specs.Network.{node, node_count}
use Rattle.model.specs.Grid as model
use Rattle.model.specs.Grid.{cell_index, cell_of, gap, within, max_grid}
use Rattle.theory.specs.Tests.{same_test}
use Rattle.theory.specs.Extremes.{greatest_ge}
use Rattle.theory.specs.GridLaws.{index_below}
use Rattle.grid.specs.Stored.{grid_of, origin, Over, InSpan, max_spread}
use Rattle.grid.specs.Squares.{Bounded, SquareOf, start_of, reaches, reaches_node}
use Rattle.grid.specs.declared.span.Axis.{Axis}
use Rattle.grid.specs.declared.span.Axis.TheVariants.{X, Y}
use Rattle.grid.specs.declared.Grid.{Grid}
use Rattle.grid.specs.declared.square.Square.{Square}
use Rattle.grid.proofs.Spans.{every}
use Rattle.grid.proofs.Bounds.{some_node, in_every, every_most}
use Rattle.grid.proofs.Cells.{holds}

-- ---- where the cells with index m begin: the quotient is rounded up

module _ (g s d m : ℕ) (some : 0 < g) where
  ceiling : ((m * (s + 1) + (g - 1)) / g ≤ d) ↔ (m ≤ d * g / (s + 1))
  ceiling = (
    λ h.
        let k : m * (s + 1) + (g - 1) < suc d * g = (div-lt_iff_lt-mul {k = g} {x = m * (s + 1) + (g - 1)} {y = suc d} some).0 (omega arith) in
        (le-div_iff_mul-le {k = s + 1} {x = m} {y = d * g} (omega arith)).1 (omega (arith, suc-mul d g)),
    λ h.
        let k : m * (s + 1) ≤ d * g = (le-div_iff_mul-le {k = s + 1} {x = m} {y = d * g} (omega arith)).0 h in
        let l : (m * (s + 1) + (g - 1)) / g < suc d = (div-lt_iff_lt-mul {k = g} {x = m * (s + 1) + (g - 1)} {y = suc d} some).1 (omega (arith, suc-mul d g)) in
        omega arith,
  )

module _ (r : Grid) (b : Bounded r) where
  -- The product of a start fits 32 bits.
  pub start_fits : (k m : ℕ) → m ≡ min k r.g → m * (r.spread + 1) ≤ max_grid * (max_spread + 1)
  start_fits k m e = let few = b.few in let narrow = b.narrow in mul-le-mul {n₁ = m} {m₁ = r.spread + 1} {n₂ = max_grid} {m₂ = max_spread + 1} (omega arith)
      (omega arith)

  -- No start lies beyond the spread, and a larger index starts no sooner.
  pub start_most : (k : ℕ) → start_of r k ≤ r.spread + 1
  unfolding start_of
  start_most k =
      let p : min k r.g * (r.spread + 1) ≤ r.g * (r.spread + 1) = mul-le-mul {n₁ = min k r.g} {m₁ = r.spread + 1} {n₂ = r.g} {m₂ = r.spread + 1}
      (omega arith) (omega arith) in
      let q = (div-lt_iff_lt-mul {k = r.g} {x = min k r.g * (r.spread + 1) + (r.g - 1)} {y =
      suc (r.spread + 1)} b.some).1 (omega (arith, suc-mul (r.spread + 1) r.g, mul_comm r.g (r.spread + 1))) in
      omega arith

  -- m is the index cut off, as the code has it.
  pub start_read : (k m : ℕ) → m ≡ min k r.g → ((m * (r.spread + 1) + (r.g - 1)) / r.g ≡ start_of r k)
      × ((m * (r.spread + 1) + (r.g - 1)) / r.g ≤ r.spread + 1)
  unfolding start_of
  start_read k m e = let q : (m * (r.spread + 1) + (r.g - 1)) / r.g ≡ start_of r k = rw e in (q, rw q (start_most k))

  pub start_rises : (j k : ℕ) → j ≤ k → start_of r j ≤ start_of r k
  unfolding start_of
  start_rises j k h =
      let p : min j r.g * (r.spread + 1) ≤ min k r.g * (r.spread + 1) =
      mul-le-mul {n₁ = min j r.g} {m₁ = r.spread + 1} {n₂ = min k r.g} {m₂ = r.spread + 1} (omega arith) (omega arith) in
      (le-div_iff_mul-le {k = r.g} {x = start_of r j} {y =
      min k r.g * (r.spread + 1) + (r.g - 1)} b.some).1 (omega (arith, div-mul-le_self (min j r.g * (r.spread + 1) + (r.g - 1)) r.g))

  module _ (from x : ℕ) (h : InSpan r from x) where
    -- The column or the row of the coordinate x.
    abbrev index : ℕ
    index = cell_index (grid_of r) from x

    begun : (j : ℕ) → (start_of r j ≤ x - from) ↔ (j ≤ index)
    unfolding start_of cell_index
    begun j =
        let l = index_below (x - from) r.g r.spread h.most h.some in
        let p = ceiling r.g r.spread (x - from) (min j r.g) h.some in
        (λ e. let q = p.0 e in omega arith, λ e. p.1 (omega arith))

    pub reached : (c k : ℕ) → from ≤ max_spread → reaches (from + start_of r (c - k)) (start_of r (c + k + 1) - start_of r (c - k)) x ≡ leb (gap index c) k
    unfolding reaches gap
    reached c k f =
        let u = begun (c - k) in
        let v = begun (c + k + 1) in
        let m = start_most (c + k + 1) in
        let l = start_rises (c - k) (c + k + 1) (omega arith) in
        same_test
        (λ e.
        let t : (x + (4_294_967_296 - (from + start_of r (c - k)))) % 4_294_967_296 < start_of r (c + k + 1) - start_of r (c - k) = ltb-true _ _ e in
        let p : start_of r (c - k) ≤ x - from = omega (arith, h.least, h.most, b.narrow) in
        let i = u.0 p in
        let q : ¬ (c + k + 1 ≤ index) = λ w. absurd (omega (arith, v.1 w)) in
        le-leb ((index - c) + (c - index)) k (omega arith))
        (λ e.
        let t : (index - c) + (c - index) ≤ k = leb-true _ _ e in
        let p = u.1 (omega arith) in
        let q : ¬ (start_of r (c + k + 1) ≤ x - from) = λ w. absurd (omega (arith, v.0 w)) in
        lt-ltb ((x + (4_294_967_296 - (from + start_of r (c - k)))) % 4_294_967_296) (start_of r (c + k + 1) - start_of r (c - k))
        (omega (arith, h.least, h.most, b.narrow)))

-- ---- an accepted network

module _ {r : Grid} {b : Bytes} (over : Over r b) where
  origin_most : (d : Axis) → origin d r ≤ max_spread
  origin_most d =
      let h = some_node b over.nodes_rule in
      omega (arith, (holds over d 0 h).least, greatest_ge (every d b) (in_every d b 0 h), every_most d b over.coordinates)

  -- The bounds of a grid over accepted nodes.
  pub bounded : Bounded r
  bounded =
      let p = holds over X 0 (some_node b over.nodes_rule) in
      record { some = p.some; few = p.few; narrow = p.narrow; left = origin_most X; bottom = origin_most Y }

  pub has_within : (c : model.Cell) (k : ℕ) (s : Square) → SquareOf r c k s → (v : ℕ) → v < node_count b
      → reaches_node s (node b v) ≡ within k c (cell_of (grid_of r) (node b v))
  unfolding reaches_node within cell_of
  has_within c k s q v h =
      rw (
        q.left,
        q.width,
        q.bottom,
        q.height,
        reached r bounded r.left (node b v).x (holds over X v h) c.column k bounded.left,
        reached r bounded r.bottom (node b v).y (holds over Y v h) c.row k bounded.bottom,
      )
