-- What acceptance says of the coordinates: each lies from the least to the greatest, and these are 2,000,000 apart at most. Assumes nothing.
use Rattle.std.proofs.Common.{◌≡◌, ℕ, ◌%◌, ◌<◌, ◌≤◌, max, Bool, false, not, ◌||◌, eqb, ltb, List, [], ◌∷◌, length, refl, arith, ltb-false}
use mathlib.Core.List.{Memᴰ}
use Rattle.model.specs.Lists.{up_to, greatest_of, least, greatest}
use Rattle.model.specs.Bytes.{Bytes}
use Rattle.model.specs.Network.{Node, node, nodes, node_count, node_size, max_nodes, nodes_broken, node_broken, coordinates_broken}
use Rattle.theory.specs.Passed.{or-false}
use Rattle.theory.specs.Extremes.{least_le, greatest_ge}
use Rattle.theory.specs.Members.{none_any, map→, →map, →up_to}
use Rattle.grid.specs.Stored.{along, max_spread}
use Rattle.grid.specs.declared.span.Axis.{Axis}
use Rattle.grid.specs.declared.span.Axis.TheVariants.{X, Y}
use Rattle.grid.proofs.Spans.{every}

greatest_most : (k x : ℕ) (l : List ℕ) → x ≤ k → ((y : ℕ) → Memᴰ y l → y ≤ k) → greatest_of x l ≤ k
unfolding greatest_of
greatest_most k x [] p h = p
greatest_most k x (y ∷ l) p h = greatest_most k (max x y) l (omega (arith, h y (Memᴰ.head refl))) (λ z m. h z (Memᴰ.tail m))

pub greatest_le : (k : ℕ) (l : List ℕ) → ((y : ℕ) → Memᴰ y l → y ≤ k) → greatest l ≤ k
unfolding greatest
greatest_le k [] h = omega arith
greatest_le k (x ∷ l) h = greatest_most k x l (h x (Memᴰ.head refl)) (λ z m. h z (Memᴰ.tail m))

-- ---- the coordinates

pub some_node : (b : Bytes) → nodes_broken b ≡ false → 0 < node_count b
unfolding nodes_broken
some_node b ok =
    let odd : Bool = not (eqb (length b % node_size) 0) in
    let p = or-false (odd || ltb (node_count b) 1) (ltb max_nodes (node_count b)) ok in
    ltb-false (node_count b) 1 (or-false odd (ltb (node_count b) 1) p.0).1

module _ (d : Axis) (b : Bytes) where
  pub in_every : (i : ℕ) → i < node_count b → Memᴰ (along d (node b i)) (every d b)
  unfolding nodes
  in_every i h = →map (along d) (nodes b) (→map (node b) (up_to (node_count b)) (→up_to (node_count b) i h))

  pub least_greatest : nodes_broken b ≡ false → least (every d b) ≤ greatest (every d b)
  least_greatest ok = let m = in_every 0 (some_node b ok) in omega (arith, least_le (every d b) m, greatest_ge (every d b) m)

  node_most : (v : Node) → node_broken v ≡ false → along d v ≤ max_spread
  unfolding node_broken
  node_most v h = step d (or-false (ltb max_spread v.x) (ltb max_spread v.y) h)
    where
      step : (d : Axis) → (ltb max_spread v.x ≡ false) × (ltb max_spread v.y ≡ false) → along d v ≤ max_spread
      step X p = ltb-false max_spread v.x p.0
      step Y p = ltb-false max_spread v.y p.1

  pub every_most : coordinates_broken b ≡ false → greatest (every d b) ≤ max_spread
  unfolding coordinates_broken
  every_most ok = greatest_le max_spread (every d b) (λ y m. each (map→ (along d) (nodes b) m))
    where
      each : {y : ℕ} → (v : Node) × Memᴰ v (nodes b) × (y ≡ along d v) → y ≤ max_spread
      each (v, m, e) = rw e (node_most v (none_any node_broken (nodes b) ok m))
