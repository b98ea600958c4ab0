-- The position of an edge among the closed ones, whose numbers rise. Assumes nothing.
use Prim.Native.Nat.{ℕ, zero, suc, ◌+◌, ◌*◌, ◌/◌, ◌<◌, ◌≤◌}
use native.Mathlib.Nat.{zero-add}
use native.Mathlib.Decide.{ℕ_discrete, dec_lt}
use native.Mathlib.Omega.{arith}
use mathlib.Core.Path.{◌≡◌, refl, sym, ◌∙◌, ap}
use mathlib.Core.Bool.{true, false, not, ◌||◌, or-false}
use mathlib.Core.List.{List, [], ◌∷◌}
use lib.Dec.{eqb}
use lib.ListN.{length, get_or, length-map}
use borrow.Author.Tests.{lt-ltb, le-ltb, ne_eqb}
use Rattle.model.specs.Lists.{filter, member, rising, up_to}
use Rattle.model.specs.Bytes.{Bytes, word16, words16, number_size}
use Rattle.theory.specs.Members.{get_d_mem}
use Rattle.theory.specs.RangeLaws.{length-range, get_d_map_range}
use Rattle.theory.specs.Shape.{rising_tail, rising_above}
use Rattle.convert.specs.Old.{is_open}
use Rattle.convert.specs.Convert.{is_before}
use Rattle.convert.proofs.Counts.{below, none_below, not_member}

-- ---- the numbers as they stand
pub number_at : (closed : Bytes) (j : ℕ) → j < length closed / number_size → get_or (words16 closed) j 0 ≡ word16 closed (number_size * j)
unfolding words16
number_at closed j l = get_d_map_range (λ k. word16 closed (number_size * k)) 0 0 (length closed / number_size) j l ∙ rw (zero-add j)

pub number_count : (closed : Bytes) → length (words16 closed) ≡ length closed / number_size
unfolding words16
number_count closed = length-map (up_to (length closed / number_size)) (λ k. word16 closed (number_size * k)) ∙ length-range 0 (length closed / number_size)

rising_get_d : (l : List ℕ) → rising l ≡ true → (a b : ℕ) → a < b → b < length l → get_or l a 0 < get_or l b 0
rising_get_d [] r a b h g = absurd (omega arith)
rising_get_d (x ∷ l) r a zero h g = absurd (omega arith)
rising_get_d (x ∷ l) r zero (suc b) h g = rising_above x l r (get_or l b 0) (get_d_mem l b 0 (omega arith))
rising_get_d (x ∷ l) r (suc a) (suc b) h g = rising_get_d l (rising_tail x l r) a b (omega arith) (omega arith)

-- ---- the search: what stands below `low` stands before i, and from `high` on nothing does
pub record Between (l : List ℕ) (i low high : ℕ) : Type 0 where
  pub before : (j : ℕ) → j < low → get_or l j 0 < i
  pub after : (j : ℕ) → high ≤ j → j < length l → i ≤ get_or l j 0

before_count : (l : List ℕ) (i at : ℕ) → at ≤ length l → ((j : ℕ) → j < at → get_or l j 0 < i) → ((j : ℕ) → at ≤ j → j < length l → i ≤ get_or l j 0)
    → at ≡ below l i
unfolding filter is_before
before_count [] i at h p q = omega arith
before_count (x ∷ xs) i zero h p q = rw (le-ltb x i (q 0 (omega arith) (omega arith)))
    (before_count xs i zero (omega arith) (λ j k. absurd (omega arith)) (λ j k g. q (suc j) (omega arith) (omega arith)))
before_count (x ∷ xs) i (suc at) h p q = rw (lt-ltb x i (p 0 (omega arith)))
    (ap suc (before_count xs i at (omega arith) (λ j k. p (suc j) (omega arith)) (λ j k g. q (suc j) (omega arith) (omega arith))))

module _ (closed : Bytes) (i : ℕ) where
  pub between_all : Between (words16 closed) i 0 (length closed / number_size)
  between_all = record { before = λ j l. absurd (omega arith); after = λ j l g. absurd (omega (arith, number_count closed)) }

  module _ (rises : rising (words16 closed) ≡ true) (low high mid x : ℕ) (p : Between (words16 closed) i low high) (l : mid < length closed / number_size)
      (e : x ≡ word16 closed (number_size * mid)) where
    pub between_after : x < i → Between (words16 closed) i (mid + 1) high
    between_after g = record { before = λ j k. pick j k (ℕ_discrete j mid); after = p.after }
      where
        pick : (j : ℕ) → j < mid + 1 → Dec (j ≡ mid) → get_or (words16 closed) j 0 < i
        pick j k (yes q) = rw q (omega (arith, number_at closed mid l))
        pick j k (no d) = omega (arith, rising_get_d (words16 closed) rises j mid (omega arith) (omega (arith, number_count closed)), number_at closed mid l)

    pub between_before : i ≤ x → Between (words16 closed) i low mid
    between_before g = record { before = p.before; after = λ j k s. pick j k s (ℕ_discrete j mid) }
      where
        pick : (j : ℕ) → mid ≤ j → j < length (words16 closed) → Dec (j ≡ mid) → i ≤ get_or (words16 closed) j 0
        pick j k s (yes q) = rw q (omega (arith, number_at closed mid l))
        pick j k s (no d) = omega (arith, rising_get_d (words16 closed) rises mid j (omega arith) s, number_at closed mid l)

  pub between_end : (low high : ℕ) → low ≤ high → high ≤ length closed / number_size → high ≤ low → Between (words16 closed) i low high
      → low ≡ below (words16 closed) i
  between_end low high h k g p =
      before_count (words16 closed) i low (omega (arith, number_count closed)) p.before (λ j a b. p.after j (omega arith) b)

-- ---- an edge is closed where its number is the first that does not stand before it
at_place : (l : List ℕ) → rising l ≡ true → (i : ℕ) → below l i < length l → member i l ≡ eqb (get_or l (below l i) 0) i
unfolding filter is_before member
at_place [] r i h = absurd (omega arith)
at_place (x ∷ xs) r i h = pick (dec_lt x i) h (λ k. at_place xs (rising_tail x xs r) i k)
  where
    same : (a b : ℕ) → eqb a b || false ≡ eqb b a
    same a b = or-false (eqb a b) ∙ swap (ℕ_discrete a b)
      where
        swap : Dec (a ≡ b) → eqb a b ≡ eqb b a
        swap (yes e) = rw e
        swap (no d) = ne_eqb a b d ∙ sym (ne_eqb b a (λ e. d (sym e)))

    pick : Dec (x < i) → below (x ∷ xs) i < suc (length xs) → (below xs i < length xs → member i xs ≡ eqb (get_or xs (below xs i) 0) i)
        → eqb i x || member i xs ≡ eqb (get_or (x ∷ xs) (below (x ∷ xs) i) 0) i
    pick (yes l) h rest = rw (lt-ltb x i l, ne_eqb i x (λ e. omega arith)) (rest (omega (arith, rw (lt-ltb x i l) at h)))
    pick (no l) h rest = rw (le-ltb x i (omega arith), none_below x xs i r (omega arith), not_member x xs i r (omega arith)) (same i x)

past_end : (l : List ℕ) → rising l ≡ true → (i : ℕ) → length l ≤ below l i → member i l ≡ false
unfolding filter is_before member
past_end [] r i h = refl
past_end (x ∷ xs) r i h = pick (dec_lt x i) h (λ k. past_end xs (rising_tail x xs r) i k)
  where
    pick : Dec (x < i) → suc (length xs) ≤ below (x ∷ xs) i → (length xs ≤ below xs i → member i xs ≡ false) → eqb i x || member i xs ≡ false
    pick (yes l) h rest = rw (ne_eqb i x (λ e. omega arith)) (rest (omega (arith, rw (lt-ltb x i l) at h)))
    pick (no l) h rest =
        let e : below (x ∷ xs) i ≡ 0 = rw (le-ltb x i (omega arith)) (none_below x xs i r (omega arith)) in absurd (omega arith)

module _ (closed : Bytes) (i at : ℕ) (rises : rising (words16 closed) ≡ true) (e : at ≡ below (words16 closed) i) where
  pub open_past : length closed / number_size ≤ at → true ≡ is_open (words16 closed) i
  unfolding is_open
  open_past h = rw (past_end (words16 closed) rises i (omega (arith, number_count closed)))

  pub open_there : (x : ℕ) → at < length closed / number_size → x ≡ word16 closed (number_size * at) → not (eqb x i) ≡ is_open (words16 closed) i
  unfolding is_open
  open_there x h q =
      let k : below (words16 closed) i < length (words16 closed) = omega (arith, number_count closed) in
      let z : x ≡ get_or (words16 closed) (below (words16 closed) i) 0 = q ∙ sym (number_at closed at h) ∙ ap (λ (n : ℕ). get_or (words16 closed) n 0) e in
      rw (at_place (words16 closed) rises i k, z)
