-- Sets joined word by word: the members of one or the other, and those of one and the other. Assumes nothing.
use Prim.Native.Nat.{ℕ, zero, suc, ◌/◌, ◌%◌, ◌^◌, ◌<◌, min, max}
use native.Mathlib.Nat.{mod-lt, mod-eq_of_lt, mul-add-mod_self_right, zero-lt-suc}
use native.Mathlib.Omega.{arith}
use mathlib.Core.Path.{◌≡◌, refl}
use mathlib.Core.Bool.{◌||◌, ◌&&◌}
use mathlib.Core.List.{List}
use lib.Dec.{eqb}
use lib.Bits.{bit_and, bit_or, and_step, and_shr}
use lib.ListN.{get_or}
use Rattle.bitset.specs.Bits.{word_bits, is_in}
use Rattle.bitset.proofs.Members.{bit, or_bit}

and_bit : (a b j : ℕ) → bit (bit_and a b) j ≡ min (bit a j) (bit b j)
and_bit a b j =
    let p = mod-lt (a / 2 ^ j) (zero-lt-suc 1) in
    let h : min (bit a j) (bit b j) < 2 = omega arith in
    rw (and_shr a b j, and_step (a / 2 ^ j) (b / 2 ^ j), mul-add-mod_self_right) (mod-eq_of_lt h)

-- ---- bits as tests

either_bit : (x y : ℕ) → x < 2 → y < 2 → eqb (max x y) 1 ≡ eqb x 1 || eqb y 1
either_bit zero zero h k = refl
either_bit zero (suc zero) h k = refl
either_bit zero (suc (suc y)) h k = absurd (omega arith)
either_bit (suc zero) zero h k = refl
either_bit (suc zero) (suc zero) h k = refl
either_bit (suc zero) (suc (suc y)) h k = absurd (omega arith)
either_bit (suc (suc x)) y h k = absurd (omega arith)

both_bits : (x y : ℕ) → x < 2 → y < 2 → eqb (min x y) 1 ≡ eqb x 1 && eqb y 1
both_bits zero zero h k = refl
both_bits zero (suc zero) h k = refl
both_bits zero (suc (suc y)) h k = absurd (omega arith)
both_bits (suc zero) zero h k = refl
both_bits (suc zero) (suc zero) h k = refl
both_bits (suc zero) (suc (suc y)) h k = absurd (omega arith)
both_bits (suc (suc x)) y h k = absurd (omega arith)

-- ---- x and y are the words of the sets a and b that have the number v, and s has their union or their meet there

module _ (s a b : List ℕ) (v : ℕ) where
  abbrev word : List ℕ → ℕ
  word l = get_or l (v / word_bits) 0

  less : (l : List ℕ) → bit (word l) (v % word_bits) < 2
  less l = mod-lt (word l / 2 ^ (v % word_bits)) (zero-lt-suc 1)

  pub in_either : word s ≡ bit_or (word a) (word b) → is_in s v ≡ is_in a v || is_in b v
  unfolding is_in
  in_either e = rw (e, or_bit (word a) (word b) (v % word_bits)) (either_bit (bit (word a) (v % word_bits)) (bit (word b) (v % word_bits)) (less a) (less b))

  pub in_both : word s ≡ bit_and (word a) (word b) → is_in s v ≡ is_in a v && is_in b v
  unfolding is_in
  in_both e = rw (e, and_bit (word a) (word b) (v % word_bits)) (both_bits (bit (word a) (v % word_bits)) (bit (word b) (v % word_bits)) (less a) (less b))
