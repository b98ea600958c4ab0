-- The index laid into the lent words, and the lent words changed elsewhere. Assumes nothing.
use Prim.Native.Nat.{ℕ, ◌+◌, ◌-◌, ◌<◌, ◌≤◌}
use native.Mathlib.Decide.{dec_le}
use native.Mathlib.Omega.{arith}
use mathlib.Core.Path.{◌≡◌, sym, ap, ◌∙◌, subst}
use mathlib.Core.Bool.{false}
use mathlib.Core.List.{List, ◌++◌}
use borrow.Rule.Slice.PartMut.{mid_of, post_of, put_mid, mid_len, take_put, drop_put}
use lib.ListN.{length, take, drop}
use lib.Seq.{length-take-le, take_at, drop_at}
use Rattle.model.specs.Bytes.{Bytes}
use Rattle.model.specs.Network.{edge_count, some_edge_broken}
use Rattle.words.specs.Frames.{KeptFrom, OnlyIn, Enough}
use Rattle.words.proofs.Stays.{kept_more}
use Rattle.model.specs.Rules.{work_words}
use Rattle.index.specs.Index.{Indexed, IndexOf, IndexedEdges}
use Rattle.index.proofs.Listing.{cleared_index, no_nodes}
use Rattle.words.specs.Regions.{index_at, index_words, index_in}
use Rattle.index.proofs.Places.{no_word, not_linked}

-- The words that are lent from a on, the place of the index.
pub part_length : (n a : ℕ) (w : List ℕ) → a ≡ index_at n → 2 ≤ n → Enough n w → length (mid_of a (work_words n - a) w) ≡ index_words n
part_length n a w e l h = mid_len a (work_words n) w h ∙ omega arith

-- The words ys are laid there.
laid_same : (n a : ℕ) (w ys : List ℕ) → a ≡ index_at n → 2 ≤ n → Enough n w → length ys ≡ work_words n - a → index_in n (put_mid a (work_words n - a) w ys) ≡ ys
unfolding index_in
laid_same n a w ys e l h size =
    ap (λ (z : ℕ). take (work_words n - z) (drop z (put_mid a (work_words n - a) w ys))) (sym e)
    ∙ ap (take (work_words n - a)) (drop_at (take a w) (ys ++ post_of a (work_words n - a) w) a (length-take-le a w (omega arith)))
    ∙ take_at ys (post_of a (work_words n - a) w) (work_words n - a) size

module _ (edges : Bytes) (n : ℕ) (ends : some_edge_broken n edges ≡ false) where
  -- For one node, and for none.
  pub no_index : (w : List ℕ) → Enough n w → n < 2 → IndexedEdges edges n w
  no_index w h l = record { ends = ends; indexed = pick (dec_le 1 n) }
    where
      pick : Dec (1 ≤ n) → Indexed edges n w
      pick (yes o) =
          cleared_index edges n (index_in n w) (not_linked n (edge_count edges) o l) (λ x p. no_word n w h l x ∙ omega arith, λ x p. no_word n w h l x)
      pick (no d) = no_nodes edges n (index_in n w) (omega arith)

  pub laid_index : (a : ℕ) (w ys : List ℕ) → a ≡ index_at n → 2 ≤ n → Enough n w → length ys ≡ length (mid_of a (work_words n - a) w) → IndexOf edges n ys
      → IndexedEdges edges n (put_mid a (work_words n - a) w ys)
      × ((take (index_at n) (put_mid a (work_words n - a) w ys) ≡ take (index_at n) w) × (KeptFrom (work_words n) w (put_mid a (work_words n - a) w ys)))
  laid_index a w ys e l h q x = (
    record {
      ends = ends;
      indexed = subst (λ (z : List ℕ). IndexOf edges n z)
          (sym (laid_same n a w ys e l h size)) x;
    },
    (before, behind),
  )
    where
      size : length ys ≡ work_words n - a
      size = q ∙ mid_len a (work_words n) w h

      before : take (index_at n) (put_mid a (work_words n - a) w ys) ≡ take (index_at n) w
      before = ap (λ (z : ℕ). take z (put_mid a (work_words n - a) w ys)) (sym e) ∙ take_put a (work_words n - a) w ys (omega arith) ∙ ap (λ (z : ℕ). take z w) e

      behind : KeptFrom (work_words n) w (put_mid a (work_words n - a) w ys)
      behind = drop_put a (work_words n) w ys (omega arith) h size

-- ---- the words before the index are changed
pub same_index : (n : ℕ) (w w' : List ℕ) → KeptFrom (index_at n) w w' → index_in n w' ≡ index_in n w
unfolding index_in
same_index n w w' e = ap (take (work_words n - index_at n)) e

module _ (edges : Bytes) (n : ℕ) (w w' : List ℕ) where
  module _ (e : KeptFrom (index_at n) w w') where
    pub indexed_kept : Indexed edges n w → Indexed edges n w'
    indexed_kept x = subst (λ (z : List ℕ). IndexOf edges n z) (sym (same_index n w w' e)) x

    pub roads_kept : IndexedEdges edges n w → IndexedEdges edges n w'
    roads_kept r = record { ends = r.ends; indexed = indexed_kept r.indexed }

  -- The words from a on stay, or all but m words from a on.
  pub roads_from : (a : ℕ) → a ≤ index_at n → KeptFrom a w w' → IndexedEdges edges n w → IndexedEdges edges n w'
  roads_from a h e r = roads_kept (kept_more a (index_at n) w w' h e) r

  pub roads_only : (a m : ℕ) → a + m ≤ index_at n → OnlyIn a m w w' → IndexedEdges edges n w → IndexedEdges edges n w'
  roads_only a m h o r = roads_from (a + m) h o.back r
