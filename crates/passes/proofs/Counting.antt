-- A node's count read and stored, and a loop over the nodes that stores k for those of a test. Assumes nothing.
use Prim.Native.Nat.{ℕ, ◌+◌, ◌≤◌, ◌<◌}
use native.Mathlib.Decide.{ℕ_discrete}
use native.Mathlib.Omega.{arith}
use mathlib.Core.Path.{◌≡◌, refl, sym, ap, ◌∙◌}
use mathlib.Core.Bool.{Bool, true, false, cond}
use mathlib.Core.List.{List}
use lib.ListN.{length, take}
use Rattle.words.specs.Halves.{half, half_words}
use Rattle.words.specs.Regions.{region_at, counts, counts_in, count_of, put_count}
use Rattle.words.specs.Frames.{OnlyIn, Enough, KeptFrom}
use Rattle.words.proofs.HalfLaws as halves
use Rattle.words.proofs.Stays.{only_same, only_then}

-- ---- the counts among their words
pub count_in : (n : ℕ) (w : List ℕ) (v : ℕ) → v < n → half (counts_in n w) v ≡ count_of n w v
unfolding count_of
count_in n w v h = halves.half_part w (region_at n counts) (half_words n) v (omega arith)

pub count_kept : (n : ℕ) (w w' : List ℕ) → KeptFrom (region_at n counts) w w' → (v : ℕ) → v < n → count_of n w' v ≡ count_of n w v
count_kept n w w' e v h = sym (count_in n w' v h) ∙ (ap (λ (l : List ℕ). half (take (half_words n) l) v) e ∙ count_in n w v h)

-- ---- one count stored, or none
module _ (n k : ℕ) (w : List ℕ) (i : ℕ) (h : i < n) (long : Enough n w) (small : k < 65536) where
  abbrev put : Bool → List ℕ
  put b = cond b (put_count n w i k) w

  put_size : (b : Bool) → length (put b) ≡ length w
  put_size true = halves.put_length w _ k
  put_size false = refl

  put_only : (b : Bool) → OnlyIn (region_at n counts) (half_words n) w (put b)
  put_only true = halves.put_only w (region_at n counts) (half_words n) i (omega arith) k
  put_only false = only_same _ _ w

  put_here : (b : Bool) → count_of n (put b) i ≡ cond b k (count_of n w i)
  unfolding count_of
  put_here true = halves.put_same w _ k (omega arith) small
  put_here false = refl

  put_other : (b : Bool) (v : ℕ) → (v ≡ i → ⊥) → count_of n (put b) v ≡ count_of n w v
  unfolding count_of
  put_other true v d = halves.put_other w _ k (omega arith) small _ (λ e. d (omega arith))
  put_other false v d = refl

-- ---- the words were w₀, and are w when the nodes below i are passed
pub record Counting (s : ℕ → Bool) (n k : ℕ) (w₀ : List ℕ) (i : ℕ) (w : List ℕ) : Type 0 where
  pub room : i ≤ n
  pub size : length w ≡ length w₀
  pub others : OnlyIn (region_at n counts) (half_words n) w₀ w
  pub told : (v : ℕ) → v < i → count_of n w v ≡ cond (s v) k (count_of n w₀ v)
  pub untold : (v : ℕ) → i ≤ v → count_of n w v ≡ count_of n w₀ v

module _ (s : ℕ → Bool) (n k : ℕ) (w₀ : List ℕ) where
  pub first : Counting s n k w₀ 0 w₀
  first = record { room = omega arith; size = refl; others = only_same _ _ w₀; told = λ v l. absurd (omega arith); untold = λ v l. refl }

  module _ (i : ℕ) (w : List ℕ) (g : Counting s n k w₀ i w) where
    pub next : i < n → Enough n w → k < 65536 → (w' : List ℕ) → w' ≡ cond (s i) (put_count n w i k) w → Counting s n k w₀ (i + 1) w'
    next h long small w' e = record {
      room = omega arith;
      size = ap length e ∙ (put_size n k w i h long small (s i) ∙ g.size);
      others = only_then _ _ w₀ w w' g.others (rw e (put_only n k w i h long small (s i)));
      told = λ v l. told v l (ℕ_discrete v i);
      untold = λ v l. ap (λ (x : List ℕ). count_of n x v) e
          ∙ (put_other n k w i h long small (s i) v (λ q. omega arith) ∙ g.untold v (omega arith));
    }
      where
        told : (v : ℕ) → v < i + 1 → Dec (v ≡ i) → count_of n w' v ≡ cond (s v) k (count_of n w₀ v)
        told v l (yes q) = rw (q, e, put_here n k w i h long small (s i), g.untold i (omega arith))
        told v l (no d) = ap (λ (x : List ℕ). count_of n x v) e ∙ (put_other n k w i h long small (s i) v d ∙ g.told v (omega (arith, d)))

    pub last : n ≤ i → ((v : ℕ) → v < n → count_of n w v ≡ cond (s v) k (count_of n w₀ v)) × OnlyIn (region_at n counts) (half_words n) w₀ w
    last h = (λ v l. g.told v (omega arith), g.others)
