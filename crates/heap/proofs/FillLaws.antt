-- Loops that store one word after another from the front. Assumes nothing.
use Prim.Native.Nat.{ℕ, zero, suc, ◌+◌, ◌<◌}
use native.Mathlib.Nat.{not-suc-le-zero, le_of_suc-le-suc}
use native.Mathlib.Numerals.{add-one}
use native.Mathlib.Omega.{arith}
use mathlib.Core.Path.{◌≡◌, refl, ap, ◌∙◌}
use mathlib.Core.List.{List, [], ◌∷◌, ◌++◌, map}
use lib.ListN.{length, get_or, set, take, drop}
use Rattle.model.specs.Lists.{range, up_to}

-- f s, f (s + 1) and so on over the front of d.
from_more : (f : ℕ → ℕ) (s i : ℕ) (d : List ℕ) → i < length d → set (map f (range s i) ++ drop i d) i (f (s + i)) ≡ map f (range s (suc i)) ++ drop (suc i) d
unfolding range
from_more f s i [] h = absurd (not-suc-le-zero h)
from_more f s zero (x ∷ d) h = let e : s + 0 ≡ s = omega arith in rw e
from_more f s (suc i) (x ∷ d) h = let e : s + suc i ≡ suc s + i = omega arith in rw e
    (ap (λ (l : List ℕ). f s ∷ l) (from_more f (suc s) i d (le_of_suc-le-suc h)))

pub number_more : (f : ℕ → ℕ) (i : ℕ) (d : List ℕ) → i < length d → set (map f (up_to i) ++ drop i d) i (f i) ≡ map f (up_to (i + 1)) ++ drop (i + 1) d
number_more f i d h = let e : i ≡ 0 + i = omega arith in rw (add-one) (ap (λ (x : ℕ). set (map f (up_to i) ++ drop i d) i (f x)) e ∙ from_more f 0 i d h)

-- Each word of the front of d changed by f.
module _ (f : ℕ → ℕ) where
  change_suc : (i : ℕ) (d : List ℕ) → i < length d → set (map f (take i d) ++ drop i d) i (f (get_or d i 0)) ≡ map f (take (suc i) d) ++ drop (suc i) d
  change_suc i [] h = absurd (not-suc-le-zero h)
  change_suc zero (x ∷ d) h = refl
  change_suc (suc i) (x ∷ d) h = ap (λ (l : List ℕ). f x ∷ l) (change_suc i d (le_of_suc-le-suc h))

  next_word : (i : ℕ) (d : List ℕ) → get_or (map f (take i d) ++ drop i d) i 0 ≡ get_or d i 0
  next_word zero d = refl
  next_word (suc i) [] = refl
  next_word (suc i) (x ∷ d) = next_word i d

  pub change_more : (i : ℕ) (d : List ℕ) → i < length d
      → set (map f (take i d) ++ drop i d) i (f (get_or (map f (take i d) ++ drop i d) i 0)) ≡ map f (take (i + 1) d) ++ drop (i + 1) d
  change_more i d h = rw (next_word i d, add-one) (change_suc i d h)
