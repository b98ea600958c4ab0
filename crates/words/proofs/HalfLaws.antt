-- A number of 16 bits read and written. Assumes nothing.
use Prim.Native.Nat.{ℕ, ◌+◌, ◌*◌, ◌/◌, ◌%◌, ◌^◌, ◌<◌}
use native.Mathlib.Omega.{arith}
use native.Mathlib.Decide.{ℕ_discrete}
use mathlib.Core.Path.{◌≡◌, subst}
use mathlib.Core.Bool.{cond}
use mathlib.Core.List.{List}
use lib.ListN.{length, get_or, set, take, drop, length-set}
use lib.Seq.{get_or-set_same, get_or-set_other, get_or-take, get_or-drop}
use lib.Dec.{eqb}
use borrow.Author.Tests.{eq-eqb, ne_eqb}
use Rattle.words.specs.Halves.{half, changed, put_half}
use Rattle.words.specs.Frames.{OnlyIn}
use Rattle.words.proofs.Stays.{only_set}

-- ---- as the code reads and writes
pub half_shifted : (w : List ℕ) (p : ℕ) → get_or w (p / 2) 0 < 4294967296 → get_or w (p / 2) 0 / 2 ^ (p % 2 * 16) % 65536 ≡ half w p
unfolding half
half_shifted w p h = pick (ℕ_discrete (p % 2) 0)
  where
    pick : Dec (p % 2 ≡ 0) → get_or w (p / 2) 0 / 2 ^ (p % 2 * 16) % 65536 ≡ half w p
    pick (yes e) = rw e (omega arith)
    pick (no d) = let f : p % 2 ≡ 1 = omega (arith, d) in rw f (omega arith)

pub half_small : (w : List ℕ) (p : ℕ) → get_or w (p / 2) 0 < 4294967296 → half w p < 65536
half_small w p h = subst (λ (y : ℕ). y < 65536) (half_shifted w p h) (omega arith)

pub changed_low : (p x y : ℕ) → p % 2 ≡ 0 → x / 65536 * 65536 + y ≡ changed p x y
unfolding changed
changed_low p x y e = rw (eq-eqb (p % 2) 0 e)

pub changed_high : (p x y : ℕ) → (p % 2 ≡ 0 → ⊥) → y * 65536 + x % 65536 ≡ changed p x y
unfolding changed
changed_high p x y e = rw (ne_eqb (p % 2) 0 e)

pub put_is : (w : List ℕ) (p y r : ℕ) → r ≡ changed p (get_or w (p / 2) 0) y → set w (p / 2) r ≡ put_half w p y
unfolding put_half
put_is w p y r e = rw e

-- ---- what is read after a store
half_of : ℕ → ℕ → ℕ
half_of p x = cond (eqb (p % 2) 0) (x % 65536) (x / 65536)

changed_same : (p x y : ℕ) → y < 65536 → half_of p (changed p x y) ≡ y
unfolding half_of changed
changed_same p x y h = pick (ℕ_discrete (p % 2) 0)
  where
    pick : Dec (p % 2 ≡ 0) → half_of p (changed p x y) ≡ y
    pick (yes e) = rw (eq-eqb (p % 2) 0 e) (omega arith)
    pick (no d) = rw (ne_eqb (p % 2) 0 d) (omega arith)

changed_other : (p q x y : ℕ) → y < 65536 → (p % 2 ≡ q % 2 → ⊥) → half_of q (changed p x y) ≡ half_of q x
unfolding half_of changed
changed_other p q x y h d = pick (ℕ_discrete (p % 2) 0) (ℕ_discrete (q % 2) 0)
  where
    pick : Dec (p % 2 ≡ 0) → Dec (q % 2 ≡ 0) → half_of q (changed p x y) ≡ half_of q x
    pick (yes e) (yes f) = absurd (d (omega arith))
    pick (yes e) (no f) = rw (eq-eqb (p % 2) 0 e, ne_eqb (q % 2) 0 f) (omega arith)
    pick (no e) (yes f) = rw (ne_eqb (p % 2) 0 e, eq-eqb (q % 2) 0 f) (omega arith)
    pick (no e) (no f) = absurd (d (omega arith))

-- Which word it stands in, and which word is written.
pub half_alike : (w w' : List ℕ) (p : ℕ) → get_or w' (p / 2) 0 ≡ get_or w (p / 2) 0 → half w' p ≡ half w p
unfolding half
half_alike w w' p e = rw e

pub put_apart : (w : List ℕ) (p y i : ℕ) → (i ≡ p / 2 → ⊥) → get_or (put_half w p y) i 0 ≡ get_or w i 0
unfolding put_half
put_apart w p y i d = get_or-set_other w (p / 2) i _ 0 d

pub put_length : (w : List ℕ) (p y : ℕ) → length (put_half w p y) ≡ length w
unfolding put_half
put_length w p y = simp length-set

module _ (w : List ℕ) (p y : ℕ) (h : p / 2 < length w) (small : y < 65536) where
  pub put_same : half (put_half w p y) p ≡ y
  unfolding half put_half
  put_same = rw (get_or-set_same w (p / 2) (changed p (get_or w (p / 2) 0) y) 0 h) (unfold half_of in changed_same p (get_or w (p / 2) 0) y small)

  pub put_other : (q : ℕ) → (q ≡ p → ⊥) → half (put_half w p y) q ≡ half w q
  unfolding half put_half
  put_other q d = pick (ℕ_discrete (q / 2) (p / 2))
    where
      pick : Dec (q / 2 ≡ p / 2) → half (put_half w p y) q ≡ half w q
      pick (no e) = rw (get_or-set_other w (p / 2) (q / 2) (changed p (get_or w (p / 2) 0) y) 0 e)
      pick (yes e) =
          rw (e, get_or-set_same w (p / 2) (changed p (get_or w (p / 2) 0) y) 0 h)
          (unfold half_of in changed_other p q (get_or w (p / 2) 0) y small (λ s. d (omega arith)))

-- ---- in m words from word a on
module _ (w : List ℕ) (a m p : ℕ) (h : p / 2 < m) where
  pub half_part : half (take m (drop a w)) p ≡ half w (2 * a + p)
  unfolding half
  half_part =
      let i : (2 * a + p) % 2 ≡ p % 2 = omega arith in
      let j : (2 * a + p) / 2 ≡ a + p / 2 = omega arith in
      rw (i, j, get_or-take m (drop a w) (p / 2) 0 h, get_or-drop a w (p / 2) 0)

  pub put_only : (y : ℕ) → OnlyIn a m w (put_half w (2 * a + p) y)
  unfolding put_half
  put_only y =
      let j : (2 * a + p) / 2 ≡ a + p / 2 = omega arith in
      rw j (only_set a m w (p / 2) _ h)
