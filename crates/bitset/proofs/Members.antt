-- The bits of words as a set: who is in it after a number is added, the set as flags, and the empty set. Assumes nothing.
use mathlib.Core.Path.{◌≡◌, refl, ap, ◌∙◌}
use mathlib.Core.List.{List}
use mathlib.Core.Bool.{true, false, ◌||◌, cond}
use Prim.Native.Nat.{ℕ, suc, ◌+◌, ◌-◌, ◌*◌, ◌/◌, ◌%◌, ◌^◌, ◌<◌, ◌≤◌, max}
use native.Mathlib.Nat.{mod-lt, mod-eq_of_lt, mul-add-mod_self_right, one-mul, pow-suc, mul-mod_left, div-eq_of_lt, zero-lt-suc, zero-add, zero-div}
use native.Mathlib.Decide.{ℕ_discrete, dec_lt}
use native.Mathlib.Omega.{arith}
use borrow.Author.Tests.{eq-eqb, ne_eqb}
use lib.Dec.{eqb, lit<}
use lib.Bits.{bit_or, or_step, or_shr}
use lib.Pow.{pow-lt, pow-add, shl-shr, shl_exact}
use lib.ListN.{length, get_or, set, drop, replicate, length-set, length-map, length-replicate, get_or-replicate}
use lib.Seq.{get_or-set_same, get_or-set_other, get_or-drop, drop-set-add, ext_get_or}
use Rattle.model.specs.Lists.{up_to}
use Rattle.theory.specs.RangeLaws.{length-range, get_d_map_range}
use Rattle.algorithms.specs.Settle.{blank}
use Rattle.bitset.specs.Bits.{is_in, insert_in, flag, flags}

-- ---- the bits of a number

abbrev pub bit : ℕ → ℕ → ℕ
bit a j = a / 2 ^ j % 2

pub or_bit : (a b j : ℕ) → bit (bit_or a b) j ≡ max (bit a j) (bit b j)
or_bit a b j =
    let p = mod-lt (a / 2 ^ j) (zero-lt-suc 1) in
    let q = mod-lt (b / 2 ^ j) (zero-lt-suc 1) in
    let h : max (bit a j) (bit b j) < 2 = omega arith in
    rw (or_shr a b j, or_step (a / 2 ^ j) (b / 2 ^ j), mul-add-mod_self_right) (mod-eq_of_lt h)

pow_bit_same : (i : ℕ) → bit (2 ^ i) i ≡ 1
pow_bit_same i = let e : 2 ^ i / 2 ^ i ≡ 1 = rw one-mul at (shl-shr 1 i) in rw e

pow_bit_above : (j k : ℕ) → bit (2 ^ (suc k + j)) j ≡ 0
pow_bit_above j k = rw (pow-add 2 (suc k) j, shl-shr, pow-suc) (mul-mod_left (2 ^ k) 2)

pow_bit_other : (i j : ℕ) → (j ≡ i → ⊥) → bit (2 ^ i) j ≡ 0
pow_bit_other i j h = go (dec_lt i j)
  where
    go : Dec (i < j) → bit (2 ^ i) j ≡ 0
    go (yes l) = rw (div-eq_of_lt (pow-lt l))
    go (no l) = let e : i ≡ suc (i - suc j) + j = omega arith in rw e (pow_bit_above j (i - suc j))

-- ---- who is in the set after v was added

module _ (s : List ℕ) (v : ℕ) (h : v / 32 < length s) where
  here : bit (get_or (insert_in s v) (v / 32) 0) (v % 32) ≡ 1
  unfolding insert_in
  here =
      let a = get_or s (v / 32) 0 in
      let p = mod-lt (a / 2 ^ (v % 32)) (zero-lt-suc 1) in
      let b : bit (2 ^ (v % 32)) (v % 32) ≡ 1 = pow_bit_same (v % 32) in
      rw (get_or-set_same s (v / 32) (bit_or a (2 ^ (v % 32))) 0 h, or_bit a (2 ^ (v % 32)) (v % 32)) (omega arith)

  other : (w : ℕ) → (w ≡ v → ⊥) → bit (get_or (insert_in s v) (w / 32) 0) (w % 32) ≡ bit (get_or s (w / 32) 0) (w % 32)
  unfolding insert_in
  other w d = go (ℕ_discrete (w / 32) (v / 32))
    where
      go : Dec (w / 32 ≡ v / 32) → bit (get_or (set s (v / 32) (bit_or (get_or s (v / 32) 0) (2 ^ (v % 32)))) (w / 32) 0) (w % 32) ≡ bit (get_or s (w / 32) 0) (w % 32)
      go (yes e) =
          let a = get_or s (v / 32) 0 in
          let k : w % 32 ≡ v % 32 → ⊥ = λ q. d (omega arith) in
          let b : bit (2 ^ (v % 32)) (w % 32) ≡ 0 = pow_bit_other (v % 32) (w % 32) k in
          rw (e, get_or-set_same s (v / 32) (bit_or a (2 ^ (v % 32))) 0 h, or_bit a (2 ^ (v % 32)) (w % 32)) (omega arith)
      go (no n) = rw (get_or-set_other s (v / 32) (w / 32) (bit_or (get_or s (v / 32) 0) (2 ^ (v % 32))) 0 n)

  pub members : (w : ℕ) → is_in (insert_in s v) w ≡ (eqb w v || is_in s w)
  unfolding is_in
  members w = go (ℕ_discrete w v)
    where
      go : Dec (w ≡ v) → is_in (insert_in s v) w ≡ (eqb w v || is_in s w)
      go (yes e) = rw (e, eq-eqb v v refl) (eq-eqb _ 1 here)
      go (no n) = rw (ne_eqb w v n) (ap (λ (x : ℕ). eqb x 1) (other w n))

-- ---- the set as flags

pub length_flags : (n : ℕ) (s : List ℕ) → length (flags n s) ≡ n
unfolding flags
length_flags n s = length-map (up_to n) (flag s) ∙ length-range 0 n

pub flag_at : (n : ℕ) (s : List ℕ) (v : ℕ) → v < n → get_or (flags n s) v 0 ≡ flag s v
unfolding flags
flag_at n s v h = get_d_map_range (flag s) 0 0 n v h ∙ ap (flag s) (zero-add v)

pub flag_in : (n : ℕ) (s : List ℕ) (v : ℕ) → v < n → is_in s v ≡ true → get_or (flags n s) v 0 ≡ 1
unfolding flag
flag_in n s v h e = flag_at n s v h ∙ rw e

pub flag_out : (n : ℕ) (s : List ℕ) (v : ℕ) → v < n → is_in s v ≡ false → get_or (flags n s) v 0 ≡ 0
unfolding flag
flag_out n s v h e = flag_at n s v h ∙ rw e

-- Flags are what the members are.
flags_by : (n : ℕ) (s : List ℕ) (l : List ℕ) → length l ≡ n → ((v : ℕ) → v < n → flag s v ≡ get_or l v 0) → flags n s ≡ l
flags_by n s l e h = ext_get_or 0 (flags n s) l (length_flags n s ∙ rw e) (λ v k. let q : v < n = omega (arith, length_flags n s) in flag_at n s v q ∙ h v q)

-- Two sets with the same members below n.
pub flags_same : (n : ℕ) (s t : List ℕ) → ((v : ℕ) → v < n → is_in s v ≡ is_in t v) → flags n s ≡ flags n t
unfolding flag
flags_same n s t h = flags_by n s (flags n t) (length_flags n t) (λ v k. rw (flag_at n t v k, h v k))

pub flags_insert : (n : ℕ) (s : List ℕ) (v : ℕ) → v < n → n ≤ length s * 32 → flags n (insert_in s v) ≡ set (flags n s) v 1
unfolding flag
flags_insert n s v i l = flags_by n (insert_in s v) (set (flags n s) v 1) (simp (length-set, length_flags))
    (λ w k. rw (members s v (omega arith) w) (go w k (ℕ_discrete w v)))
  where
    go : (w : ℕ) → w < n → Dec (w ≡ v) → cond (eqb w v || is_in s w) 1 0 ≡ get_or (set (flags n s) v 1) w 0
    go w k (yes e) = rw (e, eq-eqb v v refl, get_or-set_same (flags n s) v 1 0 (rw length_flags i))
    go w k (no d) = rw (ne_eqb w v d, get_or-set_other (flags n s) v w 1 0 d, flag_at n s w k)

pub flags_none : (n k : ℕ) → flags n (replicate k 0) ≡ replicate n 0
unfolding flag is_in
flags_none n k = flags_by n (replicate k 0) (replicate n 0) (length-replicate n 0) (λ v h.
    let z : ◌≡◌ {A = ℕ} (get_or (replicate k 0) (v / 32) 0) 0 = omega (arith, blank k (v / 32)) in
    rw (z, zero-div, get_or-replicate {A = ℕ} n v 0 0 h))

-- ---- a set that begins at word a

module _ (s : List ℕ) (a v : ℕ) where
  pub insert_is : insert_in s (32 * a + v) ≡ set s (a + v / 32) (bit_or (get_or s (a + v / 32) 0) (2 ^ (v % 32)))
  unfolding insert_in
  insert_is =
      let word : (32 * a + v) / 32 ≡ a + v / 32 = omega arith in
      let bit : (32 * a + v) % 32 ≡ v % 32 = omega arith in
      rw (word, bit)

  -- The code's mask.
  pub settle_same : set s (a + v / 32) (bit_or (get_or s (a + v / 32) 0) (1 * 2 ^ (v % 32) % 2 ^ 32)) ≡ insert_in s (32 * a + v)
  settle_same =
      let one : 1 * 2 ^ (v % 32) % 2 ^ 32 ≡ 2 ^ (v % 32) = shl_exact {a = 1} 1 (v % 32) 32 (lit< tt) (omega arith) ∙ one-mul (2 ^ (v % 32)) in
      rw (one, insert_is)

  pub insert_from : drop a (insert_in s (32 * a + v)) ≡ insert_in (drop a s) v
  unfolding insert_in
  insert_from = rw (insert_is, drop-set-add a s (v / 32) (bit_or (get_or s (a + v / 32) 0) (2 ^ (v % 32))), get_or-drop a s (v / 32) 0)
