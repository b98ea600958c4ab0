-- A least walk takes an edge once at the most, so that a least total rises by no more than that edge does. Assumes nothing.
use Rattle.std.specs.Prelude.{ℕ, ◌+◌, ◌≤◌}
use native.Mathlib.Omega.{arith}
use mathlib.Core.List.{List}
use Rattle.model.specs.Walk.{Arc, Walk, Least}
use Rattle.theory.specs.Walks.{Positive}
use Rattle.theory.specs.Simple.{distinct}
use Rattle.theory.specs.Slower.{Rising, rise, Slower, between, walked_again, was_walked, once}

module _ (x y : ℕ) where
  module _ (k : ℕ) where
    -- A least walk takes an edge once at the most, where each arc costs something.
    pub least_once : {arcs : List Arc} → Positive arcs → {u t n : ℕ} (w : Walk arcs u t n) → Least arcs u t n → rise (between x y k) w ≤ k
    least_once above w l = once x y k w (distinct above w l)

    module _ (old new : List Arc) (above : Positive old) (slower : Slower old new) (rising : Rising (between x y k) old new) where
      -- No least total falls, and none rises by more than k.
      pub least_rises : {u t n m : ℕ} → Least old u t n → Least new u t m → (n ≤ m) × (m ≤ n + k)
      least_rises l m =
          let z = walked_again (between x y k) old new rising l.has in
          let r = was_walked old new slower m.has in (
            omega (arith, l.least r.0 r.1.0, r.2),
            omega (arith, m.least z.0 z.1.0, z.2, least_once above l.has l),
          )
