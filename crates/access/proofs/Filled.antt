-- A loop over the words of a set that makes each of them anew. Assumes nothing.
use Prim.Native.Nat.{ℕ, ◌+◌, ◌/◌, ◌≤◌, ◌<◌}
use native.Mathlib.Decide.{ℕ_discrete}
use native.Mathlib.Omega.{arith}
use mathlib.Core.Path.{◌≡◌, refl, sym, ap, ◌∙◌}
use mathlib.Core.List.{List}
use lib.Bits.{bit_and, bit_or}
use lib.ListN.{length, get_or, set, drop, length-set}
use lib.Seq.{get_or-set_same, get_or-set_other, get_or-take, get_or-drop}
use Rattle.bitset.specs.Bits.{set_words}
use Rattle.bitset.proofs.Joined.{in_either, in_both}
use Rattle.crossing.specs.Sets.{either, both}
use Rattle.crossing.specs.SetLaws.{flags_either, flags_both}
use Rattle.words.specs.Regions.{region_at, region, region_flags}
use Rattle.words.proofs.Windows.{region_kept}
use Rattle.words.specs.Frames.{Only}
use Rattle.words.proofs.Stays.{only_same, only_then, only_set}

-- The words were w₀, and are w when the first i words of the set in region k are made such that word j is as `is j` says.
pub record Filling (is : ℕ → ℕ → Type 0) (n k : ℕ) (w₀ : List ℕ) (i : ℕ) (w : List ℕ) : Type 0 where
  pub room : i ≤ set_words n
  pub size : length w ≡ length w₀
  pub others : Only n k w₀ w
  pub made : 0 < n → (j : ℕ) → j < i → is j (get_or w (region_at n k + j) 0)
  pub ahead : (j : ℕ) → i ≤ j → get_or w (region_at n k + j) 0 ≡ get_or w₀ (region_at n k + j) 0

-- Word i of the set in a region.
abbrev pub word_of : ℕ → ℕ → List ℕ → ℕ → ℕ
word_of n k w i = get_or w (region_at n k + i) 0

module _ (is : ℕ → ℕ → Type 0) (n k : ℕ) (w₀ : List ℕ) where
  pub first : Filling is n k w₀ 0 w₀
  first = record { room = omega arith; size = refl; others = only_same _ _ w₀; made = λ p j h. absurd (omega arith); ahead = λ j h. refl }

  module _ (i : ℕ) (w : List ℕ) (g : Filling is n k w₀ i w) (h : i < set_words n) where
    -- The words of a region are still what they were, from word i on if it is region k.
    pub old_word : (f : ℕ) → 0 < n → word_of n f w i ≡ word_of n f w₀ i
    old_word f p = pick (ℕ_discrete f k)
      where
        shown : (l : List ℕ) → get_or (region n f l) i 0 ≡ word_of n f l i
        shown l = get_or-take (set_words n) (drop (region_at n f) l) i 0 h ∙ get_or-drop (region_at n f) l i 0

        pick : Dec (f ≡ k) → word_of n f w i ≡ word_of n f w₀ i
        pick (yes e) = rw e (g.ahead i (omega arith))
        pick (no d) = sym (shown w) ∙ (ap (λ (l : List ℕ). get_or l i 0) (region_kept n f k w₀ w d g.others p) ∙ shown w₀)

    pub next : region_at n k + set_words n ≤ length w₀ → (x : ℕ) → (0 < n → is i x) → Filling is n k w₀ (i + 1) (set w (region_at n k + i) x)
    next long x e = record {
      room = omega arith;
      size = length-set w (region_at n k + i) x ∙ g.size;
      others = only_then _ _ w₀ w (set w (region_at n k + i) x) g.others (only_set _ _ w i x h);
      made = λ p j l. pick p j l (ℕ_discrete j i);
      ahead = λ j l. get_or-set_other w (region_at n k + i) (region_at n k + j) x 0 (λ q. absurd (omega arith)) ∙ g.ahead j (omega arith);
    }
      where
        pick : 0 < n → (j : ℕ) → j < i + 1 → Dec (j ≡ i) → is j (get_or (set w (region_at n k + i) x) (region_at n k + j) 0)
        pick p j l (yes q) = rw (q, get_or-set_same w (region_at n k + i) x 0 (omega (arith, g.size))) (e p)
        pick p j l (no d) = rw (get_or-set_other w (region_at n k + i) (region_at n k + j) x 0 (λ q. d (omega arith))) (g.made p j (omega (arith, d)))

-- ---- all words are made: region k has the members of one region or another, or those of both
module _ (n a b k : ℕ) (w₀ w : List ℕ) where
  pub united : (0 < n → (i : ℕ) → i < set_words n → word_of n k w i ≡ bit_or (word_of n a w₀ i) (word_of n b w₀ i))
      → region_flags n k w ≡ either (region_flags n a w₀) (region_flags n b w₀)
  united made = flags_either n (drop (region_at n k) w) (drop (region_at n a) w₀) (drop (region_at n b) w₀) (λ v l.
      in_either (drop (region_at n k) w) (drop (region_at n a) w₀) (drop (region_at n b) w₀) v
      (get_or-drop (region_at n k) w (v / 32) 0 ∙ (made (omega arith) (v / 32) (omega arith)
      ∙ rw (get_or-drop (region_at n a) w₀ (v / 32) 0, get_or-drop (region_at n b) w₀ (v / 32) 0))))

  pub met : (0 < n → (i : ℕ) → i < set_words n → word_of n k w i ≡ bit_and (word_of n a w₀ i) (word_of n b w₀ i))
      → region_flags n k w ≡ both (region_flags n a w₀) (region_flags n b w₀)
  met made = flags_both n (drop (region_at n k) w) (drop (region_at n a) w₀) (drop (region_at n b) w₀) (λ v l.
      in_both (drop (region_at n k) w) (drop (region_at n a) w₀) (drop (region_at n b) w₀) v
      (get_or-drop (region_at n k) w (v / 32) 0 ∙ (made (omega arith) (v / 32) (omega arith)
      ∙ rw (get_or-drop (region_at n a) w₀ (v / 32) 0, get_or-drop (region_at n b) w₀ (v / 32) 0))))

-- ---- one word more, from the words of two regions: x, y and z are where the regions begin, as the code has them
module _ (post : ℕ → ℕ → ℕ → Type 0) (n a b k : ℕ) (w₀ : List ℕ) where
  abbrev pub of_both : ℕ → ℕ → Type 0
  of_both j r = post (word_of n a w₀ j) (word_of n b w₀ j) r

  pub next_of_both : (i : ℕ) (w : List ℕ) → Filling of_both n k w₀ i w → i < set_words n → region_at n k + set_words n ≤ length w₀ → (x y z r : ℕ)
      → x ≡ region_at n a → y ≡ region_at n b → z ≡ region_at n k → post (get_or w (x + i) 0) (get_or w (y + i) 0) r → Filling of_both n k w₀ (i + 1) (set w (z + i) r)
  next_of_both i w g h long x y z r p q s e = rw s (next of_both n k w₀ i w g h long r
      (λ o. rw (← old_word of_both n k w₀ i w g h a o, ← old_word of_both n k w₀ i w g h b o) (rw (p, q) at e)))
