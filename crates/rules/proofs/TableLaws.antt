-- The table of values: its size, one value, and the values that are left. Assumes nothing.
use Prim.Native.Nat.{ℕ, zero, suc, ◌+◌, ◌*◌, ◌≤◌, ◌<◌}
use native.Mathlib.Nat.{mul-le-mul}
use native.Mathlib.Omega.{arith}
use mathlib.Core.Path.{◌≡◌, sym}
use mathlib.Core.Bool.{true, false, not, ◌||◌, and-true, and-false}
use lib.ListN.{length}
use lib.Dec.{eqb, ltb}
use borrow.Author.Tests.{eq-eqb, ne_eqb}
use Rattle.model.specs.Lists.{any}
use Rattle.model.specs.Bytes.{Bytes, word16, word32}
use Rattle.model.specs.Network.{max_nodes}
use Rattle.model.specs.Pair.{hop_base, key, seconds_of, hops_of}
use Rattle.model.specs.Oracle.{seconds_size, value_size, no_walk, max_value, max_hops, decoded, value_key, value, key_broken, value_broken, cell_broken, table_broken}
use Rattle.theory.specs.RangeLaws.{rest, rest_all, rest_step, rest_end}
use Rattle.theory.specs.ReadLaws.{value_number}
use Rattle.rules.specs.Values.{excess, NoneBroken}

pub square_most : (t : ℕ) → t ≤ max_nodes → t * t ≤ max_nodes * max_nodes
square_most t h = mul-le-mul {n₁ = t} {m₁ = t} {n₂ = max_nodes} {m₂ = max_nodes} h h

-- ---- one value

-- The seconds and the hops that were read.
pub excess_read : (b : Bytes) (i s h : ℕ) → s ≡ word32 b i → h ≡ word16 b (i + seconds_size) → h < hop_base → ltb max_value s || ltb max_hops h ≡ excess b i
unfolding excess value_key
excess_read b i s h p q few =
    let seconds : seconds_of (key s h) ≡ s = omega arith in
    let hops : hops_of (key s h) ≡ h = omega arith in
    rw (← p, ← q, seconds, hops)

pub time_fine : (b : Bytes) (i : ℕ) → excess b i ≡ false → value_broken b i ≡ false
unfolding value_broken key_broken excess
time_fine b i e = rw e (and-false (not (eqb (value_key b i) no_walk)))

pub other_test : (b : Bytes) (i k : ℕ) → excess b i ≡ true → decoded k ≡ value b i → not (eqb k no_walk) ≡ value_broken b i
unfolding value_broken key_broken excess
other_test b i k e d = rw (e, ← value_number b i k d) (sym (and-true (not (eqb k no_walk))))

-- ---- values one after the other

module _ (b : Bytes) (i : ℕ) where
  -- What is known at a position is known of the value that stands there.
  at : (p : ℕ) → value_broken b p ≡ false → (j : ℕ) → p ≡ value_size * (i + j) → cell_broken b (i + j) ≡ false
  unfolding cell_broken
  at p h j e = rw (← e) h

  pub one_fine : value_broken b (value_size * i) ≡ false → NoneBroken b i 1
  one_fine h zero l = at (value_size * i) h 0 (omega arith)
  one_fine h (suc j) l = absurd (omega arith)

  pub four_fine : (p : ℕ) → p ≡ value_size * i → excess b p ≡ false → excess b (p + value_size) ≡ false → excess b (p + 2 * value_size) ≡ false
      → excess b (p + 3 * value_size) ≡ false → NoneBroken b i 4
  four_fine p e h₀ h₁ h₂ h₃ zero l = at p (time_fine b p h₀) 0 (omega arith)
  four_fine p e h₀ h₁ h₂ h₃ (suc zero) l = at (p + value_size) (time_fine b (p + value_size) h₁) 1 (omega arith)
  four_fine p e h₀ h₁ h₂ h₃ (suc (suc zero)) l = at (p + 2 * value_size) (time_fine b (p + 2 * value_size) h₂) 2 (omega arith)
  four_fine p e h₀ h₁ h₂ h₃ (suc (suc (suc zero))) l = at (p + 3 * value_size) (time_fine b (p + 3 * value_size) h₃) 3 (omega arith)
  four_fine p e h₀ h₁ h₂ h₃ (suc (suc (suc (suc j)))) l = absurd (omega arith)

-- ---- all values

module _ (t : ℕ) (b : Bytes) where
  pub table_size : (length b ≡ value_size * (t * t) → ⊥) → table_broken t b ≡ true
  unfolding table_broken
  table_size h = simp (ne_eqb (length b) (value_size * (t * t)) h)

  pub table_all : length b ≡ value_size * (t * t) → table_broken t b ≡ any (cell_broken b) (rest 0 (t * t))
  unfolding table_broken
  table_all e = rw (eq-eqb (length b) (value_size * (t * t)) e, ← rest_all (t * t))

-- The values from number i on.
module _ (b : Bytes) (n : ℕ) where
  pub table_passed : (i k : ℕ) → NoneBroken b i k → i + k ≤ n → any (cell_broken b) (rest i n) ≡ any (cell_broken b) (rest (i + k) n)
  unfolding any
  table_passed i zero none h = let e : i + 0 ≡ i = omega arith in rw e
  table_passed i (suc k) none h =
      let first : cell_broken b i ≡ false = let e : i + 0 ≡ i = omega arith in rw e at (none 0 (omega arith)) in
      let shift : (j : ℕ) → i + suc j ≡ i + 1 + j = λ j. omega arith in
      rw (rest_step i n (omega arith), first, shift k) (table_passed (i + 1) k (λ j l. rw (shift j) at (none (suc j) (omega arith))) (omega arith))

  pub table_found : (i : ℕ) → i < n → cell_broken b i ≡ true → any (cell_broken b) (rest i n) ≡ true
  unfolding any
  table_found i h e = rw (rest_step i n h, e)

  pub table_end : (i : ℕ) → n ≤ i → any (cell_broken b) (rest i n) ≡ false
  unfolding any
  table_end i h = rw (rest_end i n h)
