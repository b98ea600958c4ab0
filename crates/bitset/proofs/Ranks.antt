-- The number of members below v, counted member by member, is the index of v among the members. Assumes nothing.
use Prim.Native.Nat.{ℕ, zero, suc, ◌+◌, ◌-◌, ◌<◌, ◌≤◌}
use native.Mathlib.Omega.{arith}
use native.Mathlib.Numerals.{add-one}
use native.Mathlib.Nat.{zero-add}
use native.Mathlib.Decide.{ℕ_discrete}
use mathlib.Core.Path.{◌≡◌, refl, ap}
use mathlib.Core.Bool.{Bool, true, false, cond}
use mathlib.Core.List.{List, ◌∷◌}
use lib.ListN.{length}
use borrow.Author.Tests.{eq-eqb, ne_eqb}
use Rattle.model.specs.Lists.{range, up_to, filter, index_of}
use Rattle.theory.specs.Members.{length-filter}
use Rattle.theory.specs.RangeLaws.{length-range}
use Rattle.bitset.specs.Bits.{is_in, flag}
use Rattle.bitset.specs.Members.{members_of}

module _ (s : List ℕ) where
  -- the members among the k numbers from a on
  abbrev among : ℕ → ℕ → List ℕ
  among a k = filter (is_in s) (range a k)

  first : (a k : ℕ) → length (among a (suc k)) ≡ flag s a + length (among (suc a) k)
  unfolding range filter flag
  first a k = pick (is_in s a) (among (suc a) k)
    where
      pick : (b : Bool) (l : List ℕ) → length (cond b (a ∷ l) l) ≡ cond b 1 0 + length l
      pick true l = omega arith
      pick false l = omega arith

  last : (a k : ℕ) → length (among a (suc k)) ≡ length (among a k) + flag s (a + k)
  last a zero =
      let z : a + 0 ≡ a = omega arith in
      let none : (c : ℕ) → length (among c 0) ≡ 0 = λ c. unfold range filter in refl in
      rw z (omega (arith, first a 0, none a, none (suc a)))
  last a (suc k) =
      let e : suc a + k ≡ a + suc k = omega arith in
      rw (← e) (omega (arith, first a (suc k), first a k, last (suc a) k))

  index_from : (a k v : ℕ) → a ≤ v → v < a + k → is_in s v ≡ true → index_of v (among a k) ≡ length (among a (v - a))
  unfolding range filter index_of
  index_from a zero v h l e = absurd (omega arith)
  index_from a (suc k) v h l e = pick (ℕ_discrete v a) (λ g. index_from (suc a) k v g (omega arith) e)
    where
      later : (b : Bool) (xs ys : List ℕ) → (v ≡ a → ⊥) → index_of v xs ≡ length ys → index_of v (cond b (a ∷ xs) xs) ≡ length (cond b (a ∷ ys) ys)
      later true xs ys n q = rw (ne_eqb v a n) (ap suc q)
      later false xs ys n q = q

      pick : Dec (v ≡ a) → (suc a ≤ v → index_of v (among (suc a) k) ≡ length (among (suc a) (v - suc a)))
          → index_of v (among a (suc k)) ≡ length (among a (v - a))
      pick (yes q) rest =
          let z : v - a ≡ 0 = omega arith in
          rw (z, ← q, e, eq-eqb v v refl)
      pick (no n) rest =
          let z : v - a ≡ suc (v - suc a) = omega (arith, n, h) in
          rw z (later (is_in s a) (among (suc a) k) (among (suc a) (v - suc a)) n (rest (omega (arith, n, h))))

  pub members_most : (n : ℕ) → length (members_of n s) ≤ n
  unfolding members_of
  members_most n = omega (arith, length-filter (is_in s) (up_to n), length-range 0 n)

  pub rank_none : length (members_of 0 s) ≡ 0
  unfolding members_of range filter
  rank_none = refl

  pub rank_next : (v rank f : ℕ) → rank ≡ length (members_of v s) → f ≡ flag s v → rank + f ≡ length (members_of (v + 1) s)
  unfolding members_of
  rank_next v rank f e q = rw (add-one v) (omega (arith, last 0 v, e, q, ap (flag s) (zero-add v)))

  pub rank_index : (n v : ℕ) → v < n → is_in s v ≡ true → index_of v (members_of n s) ≡ length (members_of v s)
  unfolding members_of
  rank_index n v h e = let z : v - 0 ≡ v = omega arith in rw z at (index_from 0 n v (omega arith) (omega arith) e)
