-- The first regions as the words of a search, with the marks made after it. Assumes nothing.
use Prim.Native.Nat.{ℕ, ◌+◌, ◌≤◌, ◌<◌}
use native.Mathlib.Omega.{arith}
use mathlib.Core.Path.{◌≡◌, refl, sym, ap, ◌∙◌, subst}
use mathlib.Core.Logic.{◌↔◌}
use mathlib.Core.List.{List}
use lib.ListN.{length, get_or, take, drop, replicate}
use lib.Seq.{length-take-le, take-take, get_or-take}
use Rattle.model.specs.Walk.{Arc}
use Rattle.theory.specs.Walks.{Positive}
use Rattle.algorithms.specs.Marks.{Toward}
use Rattle.algorithms.specs.Pass.{Is}
use Rattle.algorithms.specs.Stops.{Stopped}
use Rattle.bitset.specs.Bits.{set_words, flags}
use Rattle.marks.specs.Due.{Flagged, turned}
use Rattle.marks.proofs.Views.{order_kept}
use Rattle.marks.proofs.Turns as turns
use Rattle.marks.proofs.Walks.{marked_walk}
use Rattle.words.specs.Regions.{region_at, region_flags, marks, want, times_in, order_in, want_in, marks_in, search_words, queue_words}
use Rattle.words.proofs.Windows.{times_fit, flags_front, flags_kept}
use Rattle.words.proofs.TimeLaws as times
use Rattle.access.proofs.Wanted.{want_region}
use Rattle.marks.specs.Ordered.{Ordered}
use Rattle.words.specs.Frames.{Only, Enough, KeptFrom}
use Rattle.words.proofs.Stays.{take_drop, kept_more, after_kept, only_same, only_then}

abbrev front : ℕ → List ℕ → List ℕ
front n w = take (search_words n) w

module _ (n : ℕ) (w : List ℕ) where
  two_front : take (queue_words n) (front n w) ≡ take (queue_words n) w
  two_front = take-take (queue_words n) (search_words n) w (omega arith)

  times_front : times_in n (front n w) ≡ times_in n w
  times_front = times.times_front n (search_words n) w (times_fit n)

  order_front : (i : ℕ) → order_in n i (front n w) ≡ order_in n i w
  order_front = order_kept n w (front n w) two_front

  at_marks : queue_words n ≡ region_at n marks
  at_marks = omega arith

  pub marks_region : marks_in n w ≡ region_flags n marks w
  marks_region = ap (λ (k : ℕ). flags n (drop k w)) at_marks

  marks_front : marks_in n (front n w) ≡ region_flags n marks w
  marks_front = ap (flags n) (sym (take_drop (queue_words n) (set_words n) w)) ∙ (flags_front n (drop (queue_words n) w) ∙ marks_region)

  queue_only : (w' : List ℕ) → Only n marks w w' → take (queue_words n) w' ≡ take (queue_words n) w
  queue_only w' o = subst (λ (k : ℕ). take k w' ≡ take k w) (sym at_marks) o.front

  size_front : 0 < n → Enough n w → length (front n w) ≡ search_words n
  size_front some h = length-take-le (search_words n) w (omega arith)

  node_front : (i : ℕ) → i < n → get_or (front n w) (n + i) 0 ≡ get_or w (n + i) 0
  node_front i h = get_or-take (search_words n) w (n + i) 0 (omega arith)

-- ---- the words were w₀, and are w when the order is passed up to position i
pub record Marking (arcs : List Arc) (n e : ℕ) (w₀ : List ℕ) (i : ℕ) (w : List ℕ) : Type 0 where
  pub size : length w ≡ length w₀
  pub others : Only n marks w₀ w
  pub standing : turns.Standing arcs n e (region_flags n want w₀) (front n w₀) i (front n w)

module _ (arcs : List Arc) (n e : ℕ) (w₀ : List ℕ) (two : 2 ≤ n) (long : Enough n w₀) where
  some : 0 < n
  some = omega arith

  -- w are the words before the marks were cleared.
  pub first : (w : List ℕ) → e ≤ n → Only n marks w w₀ → region_flags n marks w₀ ≡ replicate n 0 → Ordered n (times_in n w) (order_in n e w)
      → Marking arcs n e w₀ e w₀
  first w h o m r = record {
    size = refl;
    others = only_same _ _ w₀;
    standing = turns.first arcs n e (region_flags n want w₀) (front n w₀) two (front n w) h (size_front n w₀ some long)
        (two_front n w₀ ∙ (queue_only n w w₀ o ∙ sym (two_front n w))) (marks_front n w₀ ∙ m) (rw (times_front n w, order_front n w e) r);
  }

  module _ (i : ℕ) (w : List ℕ) (g : Marking arcs n e w₀ i w) (h : i < n) where
    pub node_in : get_or w (n + i) 0 < n
    node_in = rw (node_front n w i h) at (turns.node_in arcs n e (region_flags n want w₀) (front n w₀) two i (front n w) g.standing h)

    pub next : Positive arcs → (w' : List ℕ) → length w' ≡ length w → Only n marks w w'
        → region_flags n marks w' ≡ turned arcs (times_in n w) (region_flags n want w) (region_flags n marks w) (get_or w (n + i) 0) → Marking arcs n e w₀ (i + 1) w'
    next pos w' k o m =
        let same : region_flags n want w ≡ region_flags n want w₀ = flags_kept n want marks w₀ w (λ q. omega arith) g.others in
        record {
          size = k ∙ g.size;
          others = only_then _ _ w₀ w w' g.others o;
          standing = turns.next arcs n e (region_flags n want w₀) (front n w₀) two i (front n w) g.standing h pos (front n w')
              (size_front n w' some (omega (arith, g.size)) ∙ sym (size_front n w some (omega (arith, g.size))))
              (two_front n w' ∙ (queue_only n w w' o ∙ sym (two_front n w)))
              (rw (marks_front n w', marks_front n w, times_front n w, node_front n w i h, ← same) m);
        }

  pub last : (i : ℕ) (w w' : List ℕ) → n ≤ i → Only n marks w w₀ → Marking arcs n e w₀ i w'
      → ((v : ℕ) → Flagged (region_flags n marks w') v ↔ Is arcs (times_in n w) (Flagged (region_flags n want w)) (order_in n e w) v) × Only n marks w w'
  last i w w' h o g =
      let same : region_flags n want w₀ ≡ region_flags n want w = flags_kept n want marks w w₀ (λ q. omega arith) o in
      let l = turns.last arcs n e (region_flags n want w₀) (front n w₀) two i (front n w) (front n w') h
      (two_front n w₀ ∙ (queue_only n w w₀ o ∙ sym (two_front n w))) g.standing in
      (λ v. rw (marks_front n w', times_front n w, order_front n w e, same) at (l.1 v), only_then _ _ w w₀ w' o g.others)

-- The wanted nodes stay in a search.
want_kept : (n : ℕ) (w x : List ℕ) → KeptFrom (search_words n) w x → region_flags n want x ≡ region_flags n want w
want_kept n w x e = ap (flags n) (kept_more (search_words n) (region_at n want) w x (omega arith) e)

-- From the words w, the search from p has found x, and the marks made after it are y.
pub toward_found : (arcs : List Arc) (n p e : ℕ) (w x y : List ℕ) → Stopped arcs n p (want_in n w) (times_in n x) (order_in n e x) → KeptFrom (search_words n) w x
    → ((v : ℕ) → Flagged (region_flags n marks y) v ↔ Is arcs (times_in n x) (Flagged (region_flags n want x)) (order_in n e x) v)
    → (v : ℕ) → Flagged (region_flags n marks y) v ↔ Toward arcs p (Flagged (region_flags n want w)) v
toward_found arcs n p e w x y f d m v =
    marked_walk arcs n p (region_flags n want w) (times_in n x) (order_in n e x) (rw (want_region n w) at f) _ v (rw (want_kept n w x d) at (m v))

-- What stays after a search from p and the marks made after it.
pub rest_kept : (n : ℕ) (w x y : List ℕ) → 0 < n → KeptFrom (search_words n) w x → Only n marks x y → KeptFrom (search_words n) w y
rest_kept n w x y h e o = after_kept _ _ x y o (search_words n) (omega arith) ∙ e
