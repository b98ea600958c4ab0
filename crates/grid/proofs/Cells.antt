-- The cells of an accepted network: no product wraps, and each cell is one of g × g. Assumes nothing.
use Rattle.std.proofs.Common.{◌≡◌, ℕ, ◌-◌, ◌*◌, ◌<◌, ◌≤◌, max, Bool, true, false, cond, not, ltb, sym, refl, ap, ◌∙◌, subst, mul-le-mul, zero-add, arith, ltb-false}
use mathlib.Core.List.{map-map}
use Rattle.model.specs.Lists.{least, greatest}
use Rattle.model.specs.Bytes.{Bytes}
use Rattle.model.specs.Network.{node, nodes, node_count, nodes_broken, coordinates_broken}
use Rattle.model.specs.Grid as model
use Rattle.model.specs.Grid.{grid_over, cell_of, cells, cell_at, within, kind_of, grid_broken, max_grid}
use Rattle.model.specs.declared.Division.{Division}
use Rattle.model.specs.declared.Kind.TheVariants.{Far, Local}
use Rattle.theory.specs.RangeLaws.{get_d_map_range}
use Rattle.theory.specs.Passed.{or-false}
use Rattle.theory.specs.Extremes.{least_le, greatest_ge}
use Rattle.grid.specs.Stored.{grid_of, division_of, along, origin, Over, InSpan, max_spread}
use Rattle.grid.specs.declared.Grid.{Grid}
use Rattle.grid.specs.declared.span.Axis.{Axis}
use Rattle.grid.specs.declared.span.Axis.TheVariants.{X, Y}
use Rattle.grid.proofs.Spans.{every}
use Rattle.grid.proofs.Bounds.{in_every, every_most}

-- ---- the product and the quotient of a cell's index

pub index_fits : (d g : ℕ) → d ≤ max_spread → g ≤ max_grid → d * g ≤ max_spread * max_grid
index_fits d g h l = mul-le-mul {n₁ = d} {m₁ = g} {n₂ = max_spread} {m₂ = max_grid} h l

-- ---- a grid over accepted nodes holds each of them

pub g_bounds : (g : ℕ) → grid_broken g ≡ false → (0 < g) × (g ≤ max_grid)
unfolding grid_broken
g_bounds g h = let p = or-false (ltb g 1) (ltb max_grid g) h in (ltb-false g 1 p.0, ltb-false max_grid g p.1)

-- What `Grid::over` hands back for an accepted network.
pub over_made : (r : Grid) (b : Bytes) (dv : Division) → grid_of r ≡ grid_over dv (nodes b) → nodes_broken b ≡ false → coordinates_broken b ≡ false
    → grid_broken dv.g ≡ false → Over r b
unfolding grid_over
over_made r b dv e n c k =
    let p : r.g ≡ dv.g = ap (λ (m : model.Grid). m.g) e in
    let q : division_of r ≡ dv = λ i. record { g = p i } in
    record { made = subst (λ (d : Division). grid_of r ≡ grid_over d (nodes b)) (sym q) e; nodes_rule = n; coordinates = c; grid_rule = rw p k }

module _ {r : Grid} {b : Bytes} (over : Over r b) where
  starts : (d : Axis) → origin d r ≡ least (every d b)
  unfolding grid_over
  starts X = ap (λ (m : model.Grid). m.left) over.made
  starts Y = ap (λ (m : model.Grid). m.bottom) over.made

  spreads : r.spread ≡ max (greatest (every X b) - least (every X b)) (greatest (every Y b) - least (every Y b))
  unfolding grid_over
  spreads = ap (λ (m : model.Grid). m.spread) over.made

  pub holds : (d : Axis) (i : ℕ) → i < node_count b → InSpan r (origin d r) (along d (node b i))
  holds d i h = record {
    least = omega (arith, starts d, mid);
    most = omega (arith, starts d, mid, wide d);
    narrow =
        omega (arith, spreads, every_most X b over.coordinates, every_most Y b over.coordinates);
    some = bounds.0;
    few = bounds.1;
  }
    where
      bounds : (0 < r.g) × (r.g ≤ max_grid)
      bounds = g_bounds r.g over.grid_rule

      mid : (least (every d b) ≤ along d (node b i)) × (along d (node b i) ≤ greatest (every d b))
      mid = (least_le (every d b) (in_every d b i h), greatest_ge (every d b) (in_every d b i h))

      wide : (d : Axis) → greatest (every d b) - least (every d b) ≤ r.spread
      wide X = omega (arith, spreads)
      wide Y = omega (arith, spreads)

-- ---- the cell of a node, by the list of cells

pub cell_at_law : (grid : model.Grid) (b : Bytes) (i : ℕ) → i < node_count b → cell_at (cells grid (nodes b)) i ≡ cell_of grid (node b i)
unfolding cell_at cells nodes
cell_at_law grid b i h = rw map-map (get_d_map_range (λ k. cell_of grid (node b k)) _ 0 (node_count b) i h ∙ rw zero-add)

-- ---- far and local

pub kind_far : (grid : model.Grid) (c e : model.Cell) → kind_of grid c e ≡ cond (not (within grid.outer c e)) Far Local
unfolding kind_of
kind_far grid c e = step (within grid.outer c e)
  where
    step : (w : Bool) → cond w Local Far ≡ cond (not w) Far Local
    step true = refl
    step false = refl
