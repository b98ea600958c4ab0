-- A set as the rising list of its members. Assumes nothing.
use Rattle.std.specs.Prelude.{ℕ, ◌*◌, ◌≤◌, List, length}
use Rattle.model.specs.Lists.{filter, up_to}
use Rattle.bitset.specs.Bits.{word_bits, is_in}

-- The members of s below n, rising.
unfoldable pub members_of : ℕ → List ℕ → List ℕ
members_of n s = filter (is_in s) (up_to n)

-- The words of s have a bit for each number below n.
abbrev pub HasBits : ℕ → List ℕ → Type 0
HasBits n s = n ≤ word_bits * length s
