-- What writing a record at a position does, and what comparing one there tells. Assumes nothing.
use Rattle.std.specs.Prelude.{ℕ, ◌+◌, ◌≡◌, Bool, true, false, ◌&&◌, cond, Option, Some, None, [], ◌∷◌, length, drop, eqb}
use Rattle.model.specs.Bytes.{Bytes, splice}

-- `new` is `old` with these bytes written over it at position `at`, which end at `end`.
pub record Wrote (old : Bytes) (at : ℕ) (bytes : Bytes) (end : ℕ) (new : Bytes) : Type 0 where
  pub ends : end ≡ at + length bytes
  pub spliced : new ≡ splice at bytes old

-- b begins with these bytes.
unfoldable pub begins : Bytes → Bytes → Bool
begins [] b = true
begins (x ∷ xs) [] = false
begins (x ∷ xs) (y ∷ ys) = eqb y x && begins xs ys

-- What comparing b from position `at` on with these bytes tells: where they end, if they stand there.
unfoldable pub compared : Bytes → ℕ → Bytes → Option ℕ
compared b at bytes = cond (begins bytes (drop at b)) (Some (at + length bytes)) None
