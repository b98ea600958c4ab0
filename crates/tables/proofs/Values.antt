-- Values added and compared, as the distances that they mean. Assumes nothing.
use Prim.Native.Nat.{ℕ, ◌+◌, ◌<◌, ◌≤◌, min}
use native.Mathlib.Nat.{min-eq_left, min-eq_right}
use native.Mathlib.Decide.{ℕ_discrete, dec_lt}
use native.Mathlib.Omega.{arith}
use mathlib.Core.Path.{◌≡◌, refl, sym, ◌∙◌}
use borrow.Author.Tests.{eq-eqb, ne_eqb}
use Rattle.model.specs.Distance.{Distance, unreachable, finite, plus, sooner}
use Rattle.model.specs.Oracle.{no_walk, decoded}
use Rattle.tables.specs.Premises.{max_key, InRange, InTwo, summed}

pub decoded_no_walk : (v : ℕ) → v ≡ no_walk → decoded v ≡ unreachable
unfolding decoded
decoded_no_walk v e = rw (eq-eqb v no_walk e)

pub a_time : (v : ℕ) → (v ≡ no_walk → ⊥) → decoded v ≡ finite v
unfolding decoded
a_time v n = rw (ne_eqb v no_walk n)

-- A value in range is no more than 'no walk'.
pub at_most : (v : ℕ) → InRange v → v ≤ no_walk
at_most v h = pick (ℕ_discrete v no_walk)
  where
    pick : Dec (v ≡ no_walk) → v ≤ no_walk
    pick (yes e) = omega arith
    pick (no n) = omega (arith, h n)

-- ---- sums

summed_time : (k : ℕ) → k < no_walk → summed k ≡ finite k
unfolding summed
summed_time k h = rw (min-eq_left {n = k} {m = no_walk} (omega arith)) (a_time k (λ e. omega arith))

pub summed_none : (k : ℕ) → no_walk ≤ k → summed k ≡ unreachable
unfolding summed
summed_none k h = rw (min-eq_right {n = no_walk} {m = k} h) (decoded_no_walk no_walk refl)

pub summed_small : (k : ℕ) → k ≤ no_walk → summed k ≡ decoded k
unfolding summed
summed_small k h = rw (min-eq_left {n = k} {m = no_walk} h)

plus_none : (x : Distance) → plus x unreachable ≡ unreachable
unfolding plus
plus_none unreachable = refl
plus_none (finite m) = refl

-- Two values: one is 'no walk', and so is their sum; or both are times, whose sum is below it.
module _ (a b : ℕ) (p : InRange a) (q : InRange b) where
  pub two-tells : summed (a + b) ≡ plus (decoded a) (decoded b)
  unfolding plus
  two-tells = pick (ℕ_discrete a no_walk) (ℕ_discrete b no_walk)
    where
      pick : Dec (a ≡ no_walk) → Dec (b ≡ no_walk) → summed (a + b) ≡ plus (decoded a) (decoded b)
      pick (yes e) y = summed_none (a + b) (omega arith) ∙ rw (decoded_no_walk a e)
      pick (no m) (yes e) = summed_none (a + b) (omega arith) ∙ rw (decoded_no_walk b e) (sym (plus_none (decoded a)))
      pick (no m) (no n) = rw (summed_time (a + b) (omega (arith, p m, q n)), a_time a m, a_time b n)

  pub two_most : InTwo (a + b)
  two_most h = omega (arith, p (λ e. omega arith), q (λ e. omega arith))

-- A value more.
pub three_tells : (a k : ℕ) → InRange a → InTwo k → summed (a + k) ≡ plus (decoded a) (summed k)
unfolding plus
three_tells a k p q = pick (ℕ_discrete a no_walk) (dec_lt k no_walk)
  where
    pick : Dec (a ≡ no_walk) → Dec (k < no_walk) → summed (a + k) ≡ plus (decoded a) (summed k)
    pick (yes e) y = summed_none (a + k) (omega arith) ∙ rw (decoded_no_walk a e)
    pick (no m) (yes l) = rw (summed_time (a + k) (omega (arith, p m, q l)), a_time a m, summed_time k l)
    pick (no m) (no l) = summed_none (a + k) (omega arith) ∙ rw (summed_none k (omega arith)) (sym (plus_none (decoded a)))

-- ---- the lesser of two sums: 'no walk' is the greatest

module _ (a b : ℕ) where
  pub lesser_tells : summed (min a b) ≡ sooner (summed a) (summed b)
  unfolding sooner
  lesser_tells = pick (dec_lt a no_walk) (dec_lt b no_walk)
    where
      pick : Dec (a < no_walk) → Dec (b < no_walk) → summed (min a b) ≡ sooner (summed a) (summed b)
      pick (yes p) (yes q) = rw (summed_time a p, summed_time b q) (summed_time (min a b) (omega arith))
      pick (yes p) (no q) = rw (summed_time a p, summed_none b (omega arith), min-eq_left {n = a} {m = b} (omega arith)) (summed_time a p)
      pick (no p) (yes q) = rw (summed_none a (omega arith), min-eq_right {n = b} {m = a} (omega arith))
      pick (no p) (no q) = rw (summed_none a (omega arith), summed_none b (omega arith)) (summed_none (min a b) (omega arith))

  pub lesser_most : InTwo a → InTwo b → InTwo (min a b)
  lesser_most p q h = pick (dec_lt a b)
    where
      pick : Dec (a < b) → min a b ≤ max_key + max_key
      pick (yes l) = omega (arith, p (omega arith))
      pick (no l) = omega (arith, q (omega arith))
