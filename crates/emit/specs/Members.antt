-- One set among another, and bytes for the members of a set. Assumes nothing.
use Rattle.std.specs.Prelude.{ℕ, ◌<◌, ◌≡◌, true, cond, List, []}
use Rattle.model.specs.Bytes.{Bytes}
use Rattle.bitset.specs.Bits.{is_in}

-- Each member of a below n is one of s.
abbrev pub Among : ℕ → List ℕ → List ℕ → Type 0
Among n a s = (v : ℕ) → v < n → is_in a v ≡ true → is_in s v ≡ true

-- These bytes where s has v, and else none.
unfoldable pub if_in : List ℕ → ℕ → Bytes → Bytes
if_in s v bytes = cond (is_in s v) bytes []
