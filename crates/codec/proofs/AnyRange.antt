-- What `(0..n).any(..)` answers, as the specification says it. Assumes nothing.
use Rattle.std.specs.Prelude.{ℕ, zero, suc, ◌+◌, ◌≤◌, ◌<◌, ◌≡◌, refl, Bool, true, false, ◌||◌, map, get_or, List}
use Rattle.std.proofs.Common.{arith, sym}
use native.Mathlib.Decide.{ℕ_discrete}
use mathlib.Core.Bool.{or-true}
use mathlib.Core.List.{map-id}
use Rattle.model.specs.Lists.{any, range, up_to}

module _ {A : Type 0} (p : A → Bool) (g : ℕ → A) where
  some_in : (a n i : ℕ) → a ≤ i → i < a + n → p (g i) ≡ true → any p (map g (range a n)) ≡ true
  unfolding any range
  some_in a zero i h k e = absurd (omega arith)
  some_in a (suc n) i h k e = step (ℕ_discrete i a) (λ l. some_in (suc a) n i l (omega arith) e)
    where
      step : Dec (i ≡ a) → (suc a ≤ i → any p (map g (range (suc a) n)) ≡ true) → p (g a) || any p (map g (range (suc a) n)) ≡ true
      step (yes q) later = rw (← q, e)
      step (no q) later = rw (later (omega (arith, q))) (or-true (p (g a)))

  none_in : (a n : ℕ) → ((i : ℕ) → a ≤ i → i < a + n → p (g i) ≡ false) → any p (map g (range a n)) ≡ false
  unfolding any range
  none_in a zero h = refl
  none_in a (suc n) h = rw (h a (omega arith) (omega arith)) (none_in (suc a) n (λ i k l. h i (omega arith) (omega arith)))

  -- An answer `true` names a number below n that passes, and `false` says that none does. The equation names the place i of a list, which is where the facts
  -- of a run over a range are looked up.
  pub any_run : (n : ℕ) (r : Bool) → (r ≡ true → (i : ℕ) × (i < n) × (p (g i) ≡ true))
      → (r ≡ false → (xs : List ℕ) (i : ℕ) → i < n → get_or xs i 0 ≡ get_or xs i 0 → p (g i) ≡ false) → r ≡ any p (map g (up_to n))
  any_run n true found none = let w = found refl in sym (some_in 0 n w.0 (omega arith) (omega (arith, w.1)) w.2)
  any_run n false found none = sym (none_in 0 n (λ i h k. none refl (up_to n) i (omega arith) refl))

-- The same of the numbers themselves.
pub any_run_plain : (p : ℕ → Bool) (n : ℕ) (r : Bool) → (r ≡ true → (i : ℕ) × (i < n) × (p i ≡ true))
    → (r ≡ false → (xs : List ℕ) (i : ℕ) → i < n → get_or xs i 0 ≡ get_or xs i 0 → p i ≡ false) → r ≡ any p (up_to n)
any_run_plain p n r found none = let e : map (λ i. i) (up_to n) ≡ up_to n = map-id (up_to n) in rw e at (any_run p (λ i. i) n r found none)
