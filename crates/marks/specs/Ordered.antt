-- The settle order that a pass of marks goes by. Assumes nothing.
use Rattle.std.specs.Prelude.{ℕ, ◌<◌}
use mathlib.Core.List.{List, Memᴰ}
use Rattle.algorithms.specs.Settle.{Falling}

-- The order is of nodes below n, the farthest first.
pub record Ordered (n : ℕ) (times order : List ℕ) : Type 0 where
  pub inside : (v : ℕ) → Memᴰ v order → v < n
  pub falls : Falling times order
