-- Which words stay. Assumes nothing.
use Rattle.std.specs.Prelude.{ℕ, ◌+◌, ◌≤◌, ◌≡◌, List, length, take, drop}
use Rattle.model.specs.Rules.{work_words}
use Rattle.bitset.specs.Bits.{set_words}
use Rattle.words.specs.Regions.{region_at}

-- The words are as many as 01 asks for, for n nodes.
abbrev pub Enough : ℕ → List ℕ → Type 0
Enough n w = work_words n ≤ length w

-- From w to w', the words from position a on stay.
abbrev pub KeptFrom : ℕ → List ℕ → List ℕ → Type 0
KeptFrom a w w' = drop a w' ≡ drop a w

-- From w to w', the words before position a and those from a + m on stay.
pub record OnlyIn (a m : ℕ) (w w' : List ℕ) : Type 0 where
  pub front : take a w' ≡ take a w
  pub back : KeptFrom (a + m) w w'

-- All but the words of the set in region k stay.
abbrev pub Only : ℕ → ℕ → List ℕ → List ℕ → Type 0
Only n k w w' = OnlyIn (region_at n k) (set_words n) w w'
