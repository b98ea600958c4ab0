-- A set of numbers as bits of 32-bit words: number v is bit v % 32 of word v / 32. Assumes nothing.
use Rattle.std.specs.Prelude.{ℕ, ◌+◌, ◌/◌, ◌%◌, ◌^◌, Bool, cond, List, map, get_or, set, eqb}
use Rattle.std.specs.Int.Bits.{bit_or}
use Rattle.model.specs.Lists.{up_to}

-- The bits of a word.
abbrev pub word_bits : ℕ
word_bits = 32

-- The words that a set of the numbers below n is given.
abbrev pub set_words : ℕ → ℕ
set_words n = n / word_bits + 1

-- v is in the set.
unfoldable pub is_in : List ℕ → ℕ → Bool
is_in s v = eqb (get_or s (v / word_bits) 0 / 2 ^ (v % word_bits) % 2) 1

-- The set with v in it.
unfoldable pub insert_in : List ℕ → ℕ → List ℕ
insert_in s v = set s (v / word_bits) (bit_or (get_or s (v / word_bits) 0) (2 ^ (v % word_bits)))

-- 1 for each number below n that is in the set, and 0 for each other.
unfoldable pub flag : List ℕ → ℕ → ℕ
flag s v = cond (is_in s v) 1 0

unfoldable pub flags : ℕ → List ℕ → List ℕ
flags n s = map (flag s) (up_to n)
