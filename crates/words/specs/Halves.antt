-- Numbers of 16 bits, two to a word of 32: number p is the low half of word p / 2 where p is even, and else the high half. Assumes nothing.
use Rattle.std.specs.Prelude.{ℕ, ◌+◌, ◌*◌, ◌/◌, ◌%◌, cond, List, get_or, set, eqb}

-- The words of n such numbers.
abbrev pub half_words : ℕ → ℕ
half_words n = (n + 1) / 2

unfoldable pub half : List ℕ → ℕ → ℕ
half w p = cond (eqb (p % 2) 0) (get_or w (p / 2) 0 % 65536) (get_or w (p / 2) 0 / 65536)

-- The word x with one of its halves changed to y.
unfoldable pub changed : ℕ → ℕ → ℕ → ℕ
changed p x y = cond (eqb (p % 2) 0) (x / 65536 * 65536 + y) (y * 65536 + x % 65536)

unfoldable pub put_half : List ℕ → ℕ → ℕ → List ℕ
put_half w p y = set w (p / 2) (changed p (get_or w (p / 2) 0) y)
