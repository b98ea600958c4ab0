-- A node's time, which is a key (model Pair), in words that begin with the times of n nodes: their seconds, then as many words that are not of the times, and
-- then their hops, numbers of 16 bits. Assumes nothing.
use Rattle.std.specs.Prelude.{ℕ, ◌+◌, ◌*◌, List, get_or, set}
use Rattle.model.specs.Pair.{key, seconds_of, hops_of}
use Rattle.words.specs.Halves.{half_words, half, put_half}

-- Where the hops begin, and where they end.
abbrev pub hops_at : ℕ → ℕ
hops_at n = 2 * n

abbrev pub time_words : ℕ → ℕ
time_words n = hops_at n + half_words n

-- The time of node v.
unfoldable pub time : ℕ → List ℕ → ℕ → ℕ
time n work v = key (get_or work v 0) (half work (2 * hops_at n + v))

-- The words with x as the time of node v.
unfoldable pub store : ℕ → ℕ → ℕ → List ℕ → List ℕ
store n v x work = put_half (set work v (seconds_of x)) (2 * hops_at n + v) (hops_of x)
