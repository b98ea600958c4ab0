-- The digits of a number, the last behind those before it. Assumes nothing.
use Prim.Native.Nat.{ℕ, zero, suc, ◌+◌, ◌-◌, ◌/◌, ◌%◌, ◌≤◌, ◌<◌}
use native.Mathlib.Omega.{arith}
use mathlib.Core.Path.{◌≡◌, refl, ◌∙◌, ap}
use mathlib.Core.Bool.{Bool, true, false, cond}
use mathlib.Core.List.{[], ◌∷◌, ◌++◌}
use lib.ListN.{length, length-append}
use lib.Dec.{ltb}
use borrow.Author.Tests.{lt-ltb, le-ltb}
use Rattle.model.specs.Listing.{digits}

pub digits_none : (places n : ℕ) → places ≡ 0 → digits places n ≡ []
unfolding digits
digits_none places n e = rw e

module _ (places n : ℕ) (h : places ≡ 0 → ⊥) where
  digits_last : digits places n ≡ cond (ltb n 10) ((48 + n) ∷ []) (digits (places - 1) (n / 10) ++ ((48 + n % 10) ∷ []))
  digits_last = let e : places ≡ suc (places - 1) = omega (arith, h) in ap (λ (p : ℕ). digits p n) e ∙ (unfold digits in refl)

  pub digits_one : n < 10 → digits places n ≡ (48 + n) ∷ []
  digits_one l = digits_last ∙ rw (lt-ltb n 10 l)

  pub digits_more : 10 ≤ n → digits places n ≡ digits (places - 1) (n / 10) ++ ((48 + n % 10) ∷ [])
  digits_more l = digits_last ∙ rw (le-ltb n 10 l)

pub few_digits : (places n : ℕ) → length (digits places n) ≤ places
unfolding digits
few_digits zero n = omega arith
few_digits (suc places) n = pick (ltb n 10) (few_digits places (n / 10))
  where
    pick : (b : Bool) → length (digits places (n / 10)) ≤ places → length (cond b ((48 + n) ∷ []) (digits places (n / 10) ++ ((48 + n % 10) ∷ []))) ≤ suc places
    pick true h = omega arith
    pick false h = omega (arith, h, length-append (digits places (n / 10)) ((48 + n % 10) ∷ []))
