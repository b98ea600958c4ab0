-- New numbers: how many open numbers stand before one. Assumes nothing.
use Prim.Native.Nat.{ℕ, zero, suc, ◌+◌, ◌-◌, ◌≤◌, ◌<◌}
use native.Mathlib.Omega.{arith}
use native.Mathlib.Decide.{ℕ_discrete, dec_le}
use mathlib.Core.Path.{◌≡◌, refl, sym, ◌∙◌, ap}
use mathlib.Core.Bool.{Bool, true, false, not, ◌||◌, cond}
use mathlib.Core.List.{List, [], ◌∷◌}
use lib.ListN.{length, get_or}
use lib.Dec.{eqb, ltb, leb}
use borrow.Author.Tests.{ltb-true, lt-ltb, le-ltb, eq-eqb, ne_eqb, leb-false}
use Rattle.model.specs.Lists.{range, up_to, filter, any, member, index_of, rising}
use Rattle.convert.specs.Old.{is_open}
use Rattle.theory.specs.Tests.{both}
use Rattle.theory.specs.Members.{→filter, →up_to, index_of_law}
use Rattle.theory.specs.Passed.{or-false}
use Rattle.theory.specs.Shape.{rising_tail}
use Rattle.convert.specs.Convert.{is_before, new_number}

-- The numbers of a list that stand before i, and the others before i.
abbrev pub below : List ℕ → ℕ → ℕ
below closed i = length (filter (is_before i) closed)

abbrev pub open_below : List ℕ → ℕ → ℕ
open_below closed i = length (filter (is_open closed) (up_to i))

abbrev bit : Bool → ℕ
bit true = 1
bit false = 0

-- ---- a rising list
pub none_below : (x : ℕ) (xs : List ℕ) (i : ℕ) → rising (x ∷ xs) ≡ true → i ≤ suc x → below xs i ≡ 0
unfolding rising filter is_before
none_below x [] i h l = refl
none_below x (y ∷ ys) i h l =
    let p = both {b = ltb x y} h in
    let z : x < y = ltb-true x y p.0 in
    rw (le-ltb y i (omega arith)) (none_below y ys i p.1 (omega arith))

pub not_member : (x : ℕ) (xs : List ℕ) (s : ℕ) → rising (x ∷ xs) ≡ true → s ≤ x → member s xs ≡ false
unfolding rising member
not_member x [] s h l = refl
not_member x (y ∷ ys) s h l =
    let p = both {b = ltb x y} h in
    let z : x < y = ltb-true x y p.0 in
    rw (ne_eqb s y (λ e. omega arith)) (not_member y ys s p.1 (omega arith))

below_next : (closed : List ℕ) → rising closed ≡ true → (s : ℕ) → below closed (suc s) ≡ below closed s + bit (member s closed)
unfolding filter is_before member
below_next [] h s = refl
below_next (x ∷ xs) h s = step (ℕ_discrete x s) (dec_le x s) (below_next xs (rising_tail x xs h) s)
  where
    step : Dec (x ≡ s) → Dec (x ≤ s) → below xs (suc s) ≡ below xs s + bit (member s xs)
        → length (cond (ltb x (suc s)) (x ∷ filter (is_before (suc s)) xs) (filter (is_before (suc s)) xs))
        ≡ length (cond (ltb x s) (x ∷ filter (is_before s) xs) (filter (is_before s) xs)) + bit (eqb s x || member s xs)
    step (yes e) l q = rw (lt-ltb x (suc s) (omega arith), le-ltb x s (omega arith), eq-eqb s x (sym e))
        (omega (arith, none_below x xs (suc s) h (omega arith), none_below x xs s h (omega arith)))
    step (no e) (yes l) q = rw (lt-ltb x (suc s) (omega arith), lt-ltb x s (omega arith), ne_eqb s x (λ k. e (sym k))) (omega (arith, q))
    step (no e) (no l) q =
        rw (le-ltb x (suc s) (omega arith), le-ltb x s (omega arith), ne_eqb s x (λ k. e (sym k)), not_member x xs s h (omega arith))
        (omega (arith, none_below x xs (suc s) h (omega arith), none_below x xs s h (omega arith)))

below-zero : (closed : List ℕ) → below closed 0 ≡ 0
unfolding filter is_before
below-zero [] = refl
below-zero (x ∷ xs) = rw (le-ltb x 0 (omega arith)) (below-zero xs)

-- Of n numbers from s on, those that are not in the list and those that are.
module _ (closed : List ℕ) (rises : rising closed ≡ true) where
  counted : (n s : ℕ) → length (filter (is_open closed) (range s n)) + below closed (s + n) ≡ n + below closed s
  unfolding range filter is_open
  counted zero s = let e : s + 0 ≡ s = omega arith in rw e (omega arith)
  counted (suc n) s = let e : s + suc n ≡ suc s + n = omega arith in rw e (step (member s closed) (below_next closed rises s) (counted n (suc s)))
    where
      step : (b : Bool) → below closed (suc s) ≡ below closed s + bit b
          → length (filter (is_open closed) (range (suc s) n)) + below closed (suc s + n) ≡ n + below closed (suc s)
          → length (cond (not b) (s ∷ filter (is_open closed) (range (suc s) n)) (filter (is_open closed) (range (suc s) n)))
          + below closed (suc s + n) ≡ suc n + below closed s
      step true p q = omega (arith, p, q)
      step false p q = omega (arith, p, q)

  pub both_below : (i : ℕ) → open_below closed i + below closed i ≡ i
  both_below i =
      let e : 0 + i ≡ i = omega arith in
      let c : open_below closed i + below closed i ≡ i + below closed 0 = rw e at (counted i 0) in
      omega (arith, c, below-zero closed)

  pub new_number_law : (i : ℕ) → new_number closed i ≡ open_below closed i
  unfolding new_number
  new_number_law i = omega (arith, both_below i)

  -- Open numbers keep their order.
  pub new_less : (i k : ℕ) → is_open closed i ≡ true → i < k → new_number closed i < new_number closed k
  new_less i k o l =
      let e : i + (k - i) ≡ k = omega arith in
      let c : length (filter (is_open closed) (range i (k - i))) + below closed k ≡ (k - i) + below closed i = rw e at (counted (k - i) i) in
      let one : 1 ≤ length (filter (is_open closed) (range i (k - i))) = some in
      omega (arith, new_number_law i, new_number_law k, both_below i, both_below k, c, one)
    where
      some : 1 ≤ length (filter (is_open closed) (range i (k - i)))
      some = let e : k - i ≡ suc (k - i - 1) = omega arith in rw e (unfold range filter in rw o (omega arith))

  pub new_same : (i j : ℕ) → is_open closed i ≡ true → is_open closed j ≡ true → eqb (new_number closed i) (new_number closed j) ≡ eqb i j
  new_same i j p q = step (ℕ_discrete i j) (dec_le i j)
    where
      step : Dec (i ≡ j) → Dec (i ≤ j) → eqb (new_number closed i) (new_number closed j) ≡ eqb i j
      step (yes e) l = eq-eqb (new_number closed i) (new_number closed j) (ap (new_number closed) e) ∙ sym (eq-eqb i j e)
      step (no e) (yes l) = ne_eqb (new_number closed i) (new_number closed j) (λ k. omega (arith, new_less i j p (omega arith))) ∙ sym (ne_eqb i j e)
      step (no e) (no l) = ne_eqb (new_number closed i) (new_number closed j) (λ k. omega (arith, new_less j i q (omega arith))) ∙ sym (ne_eqb i j e)

-- ---- the position of a number among those that pass a test
position : (p : ℕ → Bool) (n s j : ℕ) → j < length (filter p (range s n))
    → (s ≤ get_or (filter p (range s n)) j 0) × (length (filter p (range s (get_or (filter p (range s n)) j 0 - s))) ≡ j)
unfolding range filter
position p zero s j h = absurd (omega arith)
position p (suc n) s j h = step (p s) refl j h (λ k l. position p n (suc s) k l)
  where
    on : (b : Bool) → p s ≡ b → (i : ℕ) → suc s ≤ i
        → length (filter p (range s (i - s))) ≡ length (cond b (s ∷ filter p (range (suc s) (i - suc s))) (filter p (range (suc s) (i - suc s))))
    on b e i l = let z : i - s ≡ suc (i - suc s) = omega arith in rw z (rw e)

    step : (b : Bool) → p s ≡ b → (j : ℕ) → j < length (cond b (s ∷ filter p (range (suc s) n)) (filter p (range (suc s) n)))
        → ((k : ℕ) → k < length (filter p (range (suc s) n)) → (suc s ≤ get_or (filter p (range (suc s) n)) k 0)
        × (length (filter p (range (suc s) (get_or (filter p (range (suc s) n)) k 0 - suc s))) ≡ k))
        → (s ≤ get_or (cond b (s ∷ filter p (range (suc s) n)) (filter p (range (suc s) n))) j 0)
        × (length (filter p (range s (get_or (cond b (s ∷ filter p (range (suc s) n)) (filter p (range (suc s) n))) j 0 - s))) ≡ j)
    step true e zero h rest = (omega arith, (let z : s - s ≡ 0 = omega arith in rw z))
    step true e (suc j) h rest = let r = rest j (omega arith) in (omega (arith, r.0), on true e (get_or (filter p (range (suc s) n)) j 0) r.0 ∙ ap suc r.1)
    step false e j h rest = let r = rest j h in (omega (arith, r.0), on false e (get_or (filter p (range (suc s) n)) j 0) r.0 ∙ r.1)

-- The new number of the j-th open number is j.
pub kept_number : (closed : List ℕ) → rising closed ≡ true → (m j : ℕ) → j < length (filter (is_open closed) (up_to m))
    → new_number closed (get_or (filter (is_open closed) (up_to m)) j 0) ≡ j
kept_number closed rises m j h =
    let i : ℕ = get_or (filter (is_open closed) (up_to m)) j 0 in
    let z : i - 0 ≡ i = omega arith in
    new_number_law closed rises i ∙ rw z at (position (is_open closed) m 0 j h).1

-- Each open number below m has a new number, which is its place among them.
pub has_number : (closed : List ℕ) → rising closed ≡ true → (m i : ℕ) → i < m → is_open closed i ≡ true
    → (new_number closed i < length (filter (is_open closed) (up_to m))) × (get_or (filter (is_open closed) (up_to m)) (new_number closed i) 0 ≡ i)
has_number closed rises m i h o =
    let l : List ℕ = filter (is_open closed) (up_to m) in
    let r = index_of_law i l (→filter (is_open closed) (up_to m) (→up_to m i h) o) in
    let e : new_number closed i ≡ index_of i l = ap (new_number closed) (sym r.1) ∙ kept_number closed rises m (index_of i l) r.0 in
    rw e r

-- How many are left: all but the closed ones.
all-below : (m : ℕ) (closed : List ℕ) → any (leb m) closed ≡ false → below closed m ≡ length closed
unfolding any filter is_before
all-below m [] h = refl
all-below m (x ∷ xs) h =
    let p = or-false (leb m x) (any (leb m) xs) h in
    rw (lt-ltb x m (leb-false m x p.0)) (ap suc (all-below m xs p.1))

pub open_count : (closed : List ℕ) → rising closed ≡ true → (m : ℕ) → any (leb m) closed ≡ false → open_below closed m + length closed ≡ m
open_count closed rises m h = omega (arith, both_below closed rises m, all-below m closed h)
