-- Which nodes are flagged, and where there are two of them. Assumes nothing.
use Prim.Native.Nat.{ℕ, ◌<◌, ◌≤◌}
use native.Mathlib.Decide.{dec_lt}
use native.Mathlib.Omega.{arith}
use mathlib.Core.Path.{◌≡◌, refl, ap}
use mathlib.Core.Logic.{◌↔◌, ◌⊎◌, inl, inr, ⊎_elim}
use mathlib.Core.Bool.{Bool, true, false, ◌||◌, cond, or-true}
use mathlib.Core.List.{List}
use lib.ListN.{get_or-eq_default}
use Rattle.bitset.specs.Bits.{is_in, flags}
use Rattle.crossing.specs.Sets.{test_flags, either}
use Rattle.crossing.specs.SetLaws.{flags_test, length_test_flags, test_flag_at, either_test}
use Rattle.marks.specs.Due.{Flagged}
use Rattle.words.specs.Regions.{region_at, search_words}
use Rattle.words.specs.Frames.{KeptFrom}
use Rattle.words.proofs.Stays.{kept_more}
use Rattle.access.specs.Pairs.{NotAlone}

positive : (b : Bool) → 0 < cond b 1 0 → b ≡ true
positive true h = refl
positive false h = absurd (omega arith)

or_cases : (b c : Bool) → b || c ≡ true → (b ≡ true) ⊎ (c ≡ true)
or_cases true c h = inl refl
or_cases false c h = inr h

module _ (t : ℕ → Bool) (n v : ℕ) where
  pub flagged→ : Flagged (test_flags t n) v → (v < n) × (t v ≡ true)
  flagged→ l = pick (dec_lt v n)
    where
      pick : Dec (v < n) → (v < n) × (t v ≡ true)
      pick (yes h) = (h, positive (t v) (rw (test_flag_at t n v h) at l))
      pick (no h) = let z = get_or-eq_default (test_flags t n) 0 {n = v} (omega (arith, length_test_flags t n)) in absurd (omega arith)

  pub →flagged : v < n → t v ≡ true → Flagged (test_flags t n) v
  →flagged h e = rw (test_flag_at t n v h, e) (omega arith)

module _ (n : ℕ) (s : List ℕ) (v : ℕ) where
  pub member→ : Flagged (flags n s) v → (v < n) × (is_in s v ≡ true)
  member→ l = flagged→ (is_in s) n v (rw (flags_test n s) at l)

  pub →member : v < n → is_in s v ≡ true → Flagged (flags n s) v
  →member h e = rw (flags_test n s) (→flagged (is_in s) n v h e)

pub either_flagged : (n : ℕ) (s t : List ℕ) (v : ℕ) → Flagged (either (flags n s) (flags n t)) v ↔ (Flagged (flags n s) v ⊎ Flagged (flags n t) v)
either_flagged n s t v = rw (flags_test n s, flags_test n t, either_test (is_in s) (is_in t) n) (
  λ l. let (h, e) = flagged→ (λ u. is_in s u || is_in t u) n v l in ⊎_elim (λ b. inl (→flagged (is_in s) n v h b)) (λ b. inr (→flagged (is_in t) n v h b))
      (or_cases (is_in s v) (is_in t v) e),
  λ k. ⊎_elim (λ l. let (h, e) = flagged→ (is_in s) n v l in →flagged (λ u. is_in s u || is_in t u) n v h (rw e))
      (λ l. let (h, e) = flagged→ (is_in t) n v l in →flagged (λ u. is_in s u || is_in t u) n v h (rw e (or-true (is_in s v)))) k,
)

-- The nodes of a region that stays are not alone.
pub alone_later : (n k : ℕ) (w w' : List ℕ) → search_words n ≤ region_at n k → KeptFrom (search_words n) w w' → NotAlone n k w → NotAlone n k w'
alone_later n k w w' h e a v f = a v (rw (ap (flags n) (kept_more (search_words n) (region_at n k) w w' h e)) at f)
