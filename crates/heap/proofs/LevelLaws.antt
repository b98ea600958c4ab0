-- 12 levels are enough for 4,096 positions: a level up halves the position, and a level down doubles it. Assumes nothing.
use Prim.Native.Nat.{ℕ, suc, ◌+◌, ◌-◌, ◌≤◌, ◌<◌}
use native.Mathlib.Omega.{arith}
use mathlib.Core.Path.{◌≡◌}
use Rattle.model.specs.Network.{max_nodes}
use Rattle.heap.specs.Levels.{max_levels, doubled}

pub level_top : (n i : ℕ) → n ≤ max_nodes → i < n → i < doubled (max_levels - 0)
unfolding doubled
level_top n i h l = omega arith

pub level_up : (l i p : ℕ) → l < max_levels → i < doubled (max_levels - l) → p + p < i → p < doubled (max_levels - (l + 1))
unfolding doubled
level_up l i p h d q = let e : max_levels - l ≡ suc (max_levels - (l + 1)) = omega arith in let g : i < doubled (suc (max_levels - (l + 1))) = rw e at d in omega
    arith

pub level_end : (l i : ℕ) → max_levels ≤ l → i < doubled (max_levels - l) → i ≡ 0
unfolding doubled
level_end l i h d = let e : max_levels - l ≡ 0 = omega arith in let g : i < doubled 0 = rw e at d in omega arith

pub level_first : (i : ℕ) → doubled 0 ≤ i + 1
unfolding doubled
level_first i = omega arith

pub level_down : (l i c : ℕ) → doubled l ≤ i + 1 → i + i < c → doubled (l + 1) ≤ c + 1
unfolding doubled
level_down l i c d q = let e : l + 1 ≡ suc l = omega arith in rw e (omega arith)

pub level_leaf : (l i k : ℕ) → max_levels ≤ l → l ≤ max_levels → k ≤ max_nodes → doubled l ≤ i + 1 → k ≤ i + i + 1
unfolding doubled
level_leaf l i k h h' s d = let e : l ≡ max_levels = omega arith in let g : doubled max_levels ≤ i + 1 = rw e at d in omega arith
