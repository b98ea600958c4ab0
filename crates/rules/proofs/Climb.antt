-- A scan of numbers that must rise and stay below a limit, which keeps the least number that may come next. Assumes nothing.
use Prim.Native.Nat.{ℕ, ◌+◌, ◌*◌, ◌/◌, ◌%◌, ◌≤◌, ◌<◌}
use native.Mathlib.Numerals.{add-one}
use mathlib.Core.Path.{◌≡◌, refl, ◌∙◌}
use mathlib.Core.Bool.{Bool, true, false, not, ◌||◌, ◌&&◌, or-true}
use mathlib.Core.List.{List, [], ◌∷◌, map}
use lib.ListN.{length}
use lib.Dec.{leb, leb-zero}
use borrow.Author.Tests.{eq-eqb, le-leb, lt-leb}
use Rattle.model.specs.Lists.{any, rising}
use Rattle.model.specs.Bytes.{Bytes, word16, number_size, words16}
use Rattle.model.specs.Network.{numbers_broken}
use Rattle.theory.specs.RangeLaws.{rest, rest_step, rest_end, rest_all}

-- The numbers rise, and the first is not below `least`.
unfoldable pub rising_from : ℕ → List ℕ → Bool
rising_from least [] = true
rising_from least (x ∷ xs) = leb least x && rising_from (x + 1) xs

rising_after : (x : ℕ) (xs : List ℕ) → rising (x ∷ xs) ≡ rising_from (x + 1) xs
unfolding rising rising_from
rising_after x [] = refl
rising_after x (y ∷ ys) = rw (add-one x, rising_after y ys)

pub rising_from_law : (xs : List ℕ) → rising xs ≡ rising_from 0 xs
unfolding rising rising_from
rising_from_law [] = refl
rising_from_law (x ∷ xs) = rw leb-zero (rising_after x xs)

-- The numbers from f i up to, not including, f n break rule 7 or 9, where no number below `least` may come next.
abbrev pub numbers_left : ℕ → (ℕ → ℕ) → ℕ → ℕ → ℕ → Bool
numbers_left limit f n least i = not (rising_from least (map f (rest i n))) || any (leb limit) (map f (rest i n))

-- The numbers of a body.
abbrev pub number_at : Bytes → ℕ → ℕ
number_at b i = word16 b (number_size * i)

pub numbers_all : (limit : ℕ) (b : Bytes) → length b % number_size ≡ 0 → numbers_broken limit b ≡ numbers_left limit (number_at b) (length b / number_size) 0 0
unfolding numbers_broken words16
numbers_all limit b e = simp (eq-eqb _ _ e) (rw (← rest_all (length b / number_size), rising_from_law))

module _ (limit : ℕ) (f : ℕ → ℕ) (n least i : ℕ) where
  pub numbers_end : n ≤ i → numbers_left limit f n least i ≡ false
  unfolding any rising_from
  numbers_end h = rw (rest_end i n h)

  -- One turn, at the number x.
  module _ (h : i < n) (x : ℕ) (e : x ≡ f i) where
    turn : numbers_left limit f n least i
        ≡ not (leb least x && rising_from (x + 1) (map f (rest (i + 1) n))) || (leb limit x || any (leb limit) (map f (rest (i + 1) n)))
    unfolding any rising_from
    turn = rw (rest_step i n h, e)

    pub numbers_low : x < least → numbers_left limit f n least i ≡ true
    numbers_low l = turn ∙ simp (lt-leb least x l)

    pub numbers_high : leb limit x ≡ true → numbers_left limit f n least i ≡ true
    numbers_high l = turn ∙ simp (l, or-true)

    pub numbers_next : least ≤ x → leb limit x ≡ false → numbers_left limit f n least i ≡ numbers_left limit f n (x + 1) (i + 1)
    numbers_next l k = turn ∙ simp (le-leb least x l, k)
