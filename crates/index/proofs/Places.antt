-- The words of the index, where they stand in the lent words. Assumes nothing.
use Prim.Native.Nat.{ℕ, ◌+◌, ◌*◌, ◌/◌, ◌%◌, ◌<◌, ◌≤◌}
use native.Mathlib.Omega.{arith}
use mathlib.Core.Path.{◌≡◌, sym, ap, ◌∙◌}
use mathlib.Core.Bool.{true, false}
use mathlib.Core.List.{List}
use borrow.Author.Tests.{leb-true, lt-leb}
use lib.ListN.{length, get_or, drop, length-drop, get_or-eq_default}
use lib.Seq.{length-take-le, get_or-take, get_or-drop}
use Rattle.words.specs.Frames.{Enough}
use Rattle.words.specs.Halves.{half}
use Rattle.words.specs.Regions.{index_at, index_words, index_in}
use Rattle.words.proofs.HalfLaws.{half_part}
use Rattle.words.proofs.Windows.{index_fits}
use Rattle.index.specs.Index.{next, block, linked}
use Rattle.index.specs.Read.{ReadAt}

-- ---- links or blocks
module _ (n m : ℕ) where
  pub links_fit : linked n m ≡ true → n + 2 * m ≤ 2 * index_words n
  unfolding linked
  links_fit e = leb-true (n + 2 * m) (2 * index_words n) e

  pub not_linked : 1 ≤ n → n < 2 → linked n m ≡ false
  unfolding linked
  not_linked h l = lt-leb (n + 2 * m) (2 * index_words n) (omega arith)

module _ (n : ℕ) (w : List ℕ) (h : Enough n w) where
  pub index_length : length (index_in n w) ≡ index_words n
  unfolding index_in
  index_length = length-take-le (index_words n) (drop (index_at n) w) (omega (arith, length-drop (index_at n) w))

  pub heads_fit : 2 ≤ n → n ≤ length (index_in n w)
  heads_fit l = omega (arith, index_length, index_fits n l)

  module _ (p : ℕ) (l : p < length (index_in n w)) where
    pub of_two : 2 ≤ n
    of_two = omega (arith, index_length)

    pub place_fits : index_at n + p < length w
    place_fits = omega (arith, index_length)

    word_in : get_or (index_in n w) p 0 ≡ get_or w (index_at n + p) 0
    unfolding index_in
    word_in = get_or-take (index_words n) (drop (index_at n) w) p 0 (omega (arith, index_length)) ∙ get_or-drop (index_at n) w p 0

    -- Both numbers of the word, as the code has read them at a.
    pub read_there : (a b x : ℕ) → a ≡ index_at n → (b ≡ block w (a + p)) × (b < 65536) → x ≡ next w (a + p)
        → ReadAt (index_in n w) p (record { block = b; next = x })
    unfolding next block
    read_there a b x e f g = record {
      block = f.0 ∙ ap (λ (z : ℕ). get_or w (z + p) 0 / 65536) e ∙ sym (ap (λ (z : ℕ). z / 65536) word_in);
      next = g ∙ ap (λ (z : ℕ). get_or w (z + p) 0 % 65536) e ∙ sym (ap (λ (z : ℕ). z % 65536) word_in);
      low = f.1;
    }

  -- A link, by its place among all numbers of 16 bits.
  module _ (p : ℕ) (l : p < 2 * length (index_in n w)) where
    pub of_two_links : 2 ≤ n
    of_two_links = omega (arith, index_length)

    pub link_fits : (2 * index_at n + p) / 2 < length w
    link_fits = omega (arith, index_length)

    pub link_there : half (index_in n w) p ≡ half w (2 * index_at n + p)
    unfolding index_in
    link_there = half_part w (index_at n) (index_words n) p (omega (arith, index_length))

  -- For one node there is no index.
  module _ (l : n < 2) (u : ℕ) where
    pub no_word : get_or (index_in n w) u 0 ≡ 0
    no_word = get_or-eq_default (index_in n w) 0 {n = u} (omega (arith, index_length))

    pub read_none : ReadAt (index_in n w) u (record { block = 0; next = 0 })
    unfolding next block
    read_none = record { block = rw no_word (omega arith); next = rw no_word (omega arith); low = omega arith }
