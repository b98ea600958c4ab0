-- Sets of numbers as flags, one for each number below n: 1 for a member, and 0 for each other number. Assumes nothing.
use Rattle.std.specs.Prelude.{ℕ, suc, min, max, Bool, cond, eqb}
use mathlib.Core.List.{List, [], ◌∷◌, map, zip_with}
use Rattle.model.specs.Lists.{up_to, member}

-- The numbers that pass a test.
unfoldable pub test_flags : (ℕ → Bool) → ℕ → List ℕ
test_flags p n = map (λ v. cond (p v) 1 0) (up_to n)

-- The members of a list.
unfoldable pub member_flags : ℕ → List ℕ → List ℕ
member_flags n l = test_flags (λ v. member v l) n

-- The members of one set or the other, and those of one and the other.
unfoldable pub either : List ℕ → List ℕ → List ℕ
either xs ys = zip_with max xs ys

unfoldable pub both : List ℕ → List ℕ → List ℕ
both xs ys = zip_with min xs ys

-- How many members a set has.
unfoldable pub ones : List ℕ → ℕ
ones [] = 0
ones (x ∷ xs) = cond (eqb x 1) (suc (ones xs)) (ones xs)
