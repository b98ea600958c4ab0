-- What is told of the values of a table. Assumes nothing.
use Rattle.std.specs.Prelude.{ℕ, ◌+◌, ◌<◌, ◌≡◌, Bool, false, ◌||◌, ltb}
use Rattle.model.specs.Bytes.{Bytes}
use Rattle.model.specs.Pair.{seconds_of, hops_of}
use Rattle.model.specs.Oracle.{max_value, max_hops, value_key, cell_broken}

-- The value at a position has more seconds or more hops than a time may.
unfoldable pub excess : Bytes → ℕ → Bool
excess b i = ltb max_value (seconds_of (value_key b i)) || ltb max_hops (hops_of (value_key b i))

-- None of the k values from number i on is out of range.
abbrev pub NoneBroken : Bytes → ℕ → ℕ → Type 0
NoneBroken b i k = (j : ℕ) → j < k → cell_broken b (i + j) ≡ false
