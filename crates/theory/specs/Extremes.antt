-- The least and the greatest of a list. Assumes nothing.
use Rattle.std.specs.Prelude.{ℕ, ◌≤◌, min, max, ◌≡◌, refl, ◌⊎◌}
use Rattle.std.proofs.Math.Decide.{dec_le}
use Rattle.std.proofs.Common.{arith, ◌∙◌, inl, inr}
use mathlib.Core.List.Memᴰ
use mathlib.Core.List.{List, [], ◌∷◌, Memᴰ}
use Rattle.model.specs.Lists.{least_of, greatest_of, least, greatest}

pub either : (a b : ℕ) → (min a b ≡ a) ⊎ (min a b ≡ b)
either a b = elim (dec_le a b) [ yes h ↦ inl (omega arith) | no h ↦ inr (omega arith) ]

pub least_of_mem : (v : ℕ) (vs : List ℕ) → Memᴰ (least_of v vs) (v ∷ vs)
unfolding least_of
least_of_mem v [] = Memᴰ.head refl
least_of_mem v (x ∷ xs) = step (either v x) (Memᴰ.cases_cons (least_of_mem (min v x) xs))
  where
    step : (min v x ≡ v) ⊎ (min v x ≡ x) → (least_of (min v x) xs ≡ min v x) ⊎ Memᴰ (least_of (min v x) xs) xs
        → Memᴰ (least_of (min v x) xs) (v ∷ (x ∷ xs))
    step (inl e) (inl q) = Memᴰ.head (q ∙ e)
    step (inr e) (inl q) = Memᴰ.tail (Memᴰ.head (q ∙ e))
    step c (inr m) = Memᴰ.tail (Memᴰ.tail m)

pub least_of_le : (v : ℕ) (vs : List ℕ) {x : ℕ} → Memᴰ x (v ∷ vs) → least_of v vs ≤ x
unfolding least_of
least_of_le v [] (Memᴰ.head e) = omega arith
least_of_le v [] (Memᴰ.tail m) = absurd (Memᴰ.not-nil m)
least_of_le v (y ∷ ys) (Memᴰ.head e) = omega (arith, least_of_le (min v y) ys (Memᴰ.head refl))
least_of_le v (y ∷ ys) {x} (Memᴰ.tail m) = step (Memᴰ.cases_cons m) (least_of_le (min v y) ys (Memᴰ.head refl))
    (λ k. least_of_le (min v y) ys (Memᴰ.tail k))
  where
    step : (x ≡ y) ⊎ Memᴰ x ys → least_of (min v y) ys ≤ min v y → (Memᴰ x ys → least_of (min v y) ys ≤ x) → least_of (min v y) ys ≤ x
    step (inl e) h rest = omega arith
    step (inr k) h rest = rest k

pub greatest_of_ge : (v : ℕ) (vs : List ℕ) {x : ℕ} → Memᴰ x (v ∷ vs) → x ≤ greatest_of v vs
unfolding greatest_of
greatest_of_ge v [] (Memᴰ.head e) = omega arith
greatest_of_ge v [] (Memᴰ.tail m) = absurd (Memᴰ.not-nil m)
greatest_of_ge v (y ∷ ys) (Memᴰ.head e) = omega (arith, greatest_of_ge (max v y) ys (Memᴰ.head refl))
greatest_of_ge v (y ∷ ys) {x} (Memᴰ.tail m) = step (Memᴰ.cases_cons m) (greatest_of_ge (max v y) ys (Memᴰ.head refl))
    (λ k. greatest_of_ge (max v y) ys (Memᴰ.tail k))
  where
    step : (x ≡ y) ⊎ Memᴰ x ys → max v y ≤ greatest_of (max v y) ys → (Memᴰ x ys → x ≤ greatest_of (max v y) ys) → x ≤ greatest_of (max v y) ys
    step (inl e) h rest = omega arith
    step (inr k) h rest = rest k

pub least_le : (xs : List ℕ) {y : ℕ} → Memᴰ y xs → least xs ≤ y
unfolding least
least_le [] m = absurd (Memᴰ.not-nil m)
least_le (x ∷ xs) m = least_of_le x xs m

pub greatest_ge : (xs : List ℕ) {y : ℕ} → Memᴰ y xs → y ≤ greatest xs
unfolding greatest
greatest_ge [] m = absurd (Memᴰ.not-nil m)
greatest_ge (x ∷ xs) m = greatest_of_ge x xs m
