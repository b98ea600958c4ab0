-- The pass over the order, one node after another: the theory's state at each, over lists and over the lent words. Assumes nothing.
use Prim.Native.Nat.{ℕ, ◌+◌, ◌≤◌, ◌<◌}
use native.Mathlib.Omega.{arith}
use mathlib.Core.Path.{◌≡◌, refl, sym, ◌∙◌}
use mathlib.Core.Logic.{◌↔◌}
use mathlib.Core.Bool.{Bool, true, false, ◌||◌, cond, true≢false, or-true}
use mathlib.Core.List.{List, ◌∷◌, Memᴰ}
use borrow.Author.Tests.{ltb-true, lt-ltb, eqb-true, eq-eqb}
use lib.Dec.{ltb, eqb}
use lib.ListN.{length, get_or, set, take, replicate}
use Rattle.model.specs.Lists.{any}
use Rattle.model.specs.Walk.{Arc}
use Rattle.theory.specs.Tests.{both, and}
use Rattle.theory.specs.Members.{any→, →any}
use Rattle.theory.specs.Walks.{Positive}
use Rattle.algorithms.specs.Dijkstra.{at}
use Rattle.algorithms.specs.Settle.{Falling}
use Rattle.algorithms.specs.Pass.{Reason, wanted, onward, Is, Upto, upto_start, upto_end}
use Rattle.algorithms.proofs.Turns.{turn_mark, turn_skip}
use Rattle.marks.specs.Due.{Flagged, leading, due, turned}
use Rattle.marks.proofs.Views.{order_kept, order_next, order_end}
use Rattle.words.specs.Regions.{times_in, order_in, marks_in, search_words, queue_words}
use Rattle.words.proofs.TimeLaws.{times_kept}
use Rattle.marks.specs.Ordered.{Ordered}

-- ---- a node is due for a reason
module _ (arcs : List Arc) (times want marks : List ℕ) (v : ℕ) where
  due→ : due arcs times want marks v ≡ true → Reason arcs (at times) (Flagged want) marks v
  unfolding due leading
  due→ h = pick (ltb 0 (at want v)) refl h
    where
      pick : (b : Bool) → ltb 0 (at want v) ≡ b → b || any (leading times marks v) arcs ≡ true → Reason arcs (at times) (Flagged want) marks v
      pick true e k = wanted (ltb-true 0 (at want v) e)
      pick false e k =
          let (a, m, t) = any→ (leading times marks v) arcs k in
          let p = both {b = eqb a.from v} t in
          let q = both {b = ltb 0 (at marks a.to)} p.1 in
          onward a m (eqb-true _ _ p.0) (eqb-true _ _ q.1) (ltb-true _ _ q.0)

  →due : Reason arcs (at times) (Flagged want) marks v → due arcs times want marks v ≡ true
  unfolding due leading
  →due (wanted g) = rw (lt-ltb 0 (at want v) g)
  →due (onward a m e t h) =
      rw (→any (leading times marks v) arcs m (and (eq-eqb a.from v e)
      (and (lt-ltb 0 (at marks a.to) h) (eq-eqb (at times a.to) (at times v + a.cost) t))))
      (or-true (ltb 0 (at want v)))

-- ---- over lists: `rest` of the order is still to come
pub record Passing (arcs : List Arc) (n : ℕ) (times want order rest marks : List ℕ) : Type 0 where
  pub part : (v : ℕ) → Memᴰ v rest → Memᴰ v order
  pub ahead : Ordered n times rest
  upto : Upto arcs times (Flagged want) order n rest marks

module _ (arcs : List Arc) (n : ℕ) (times want order : List ℕ) where
  pass_first : Ordered n times order → Passing arcs n times want order order (replicate n 0)
  pass_first o = record { part = λ v m. m; ahead = o; upto = upto_start arcs times (Flagged want) order n }

  pass_next : Positive arcs → (v : ℕ) (rest marks : List ℕ) → Passing arcs n times want order (v ∷ rest) marks
      → Passing arcs n times want order rest (turned arcs times want marks v)
  unfolding turned Falling
  pass_next pos v rest marks p = record {
    part = λ w m. p.part w (Memᴰ.tail m);
    ahead = record { inside = λ w m. p.ahead.inside w (Memᴰ.tail m); falls = p.ahead.falls.1 };
    upto = pick (due arcs times want marks v) refl;
  }
    where
      v_in : v < n
      v_in = p.ahead.inside v (Memᴰ.head refl)

      pick : (b : Bool) → due arcs times want marks v ≡ b → Upto arcs times (Flagged want) order n rest (cond b (set marks v 1) marks)
      pick true e = turn_mark arcs times (Flagged want) order n v rest marks v_in p.ahead.falls p.upto (p.part v (Memᴰ.head refl))
          (due→ arcs times want marks v e)
      pick false e = turn_skip arcs times (Flagged want) order n v rest marks v_in p.ahead.falls p.upto pos
          (λ r. true≢false (sym (→due arcs times want marks v r) ∙ e))

-- ---- over the lent words: they were w₀, and are w when the order is passed up to position i
pub record Standing (arcs : List Arc) (n e : ℕ) (want w₀ : List ℕ) (i : ℕ) (w : List ℕ) : Type 0 where
  pub room : i ≤ n
  pub size : length w ≡ search_words n
  pub kept : take (queue_words n) w ≡ take (queue_words n) w₀
  pub passing : Passing arcs n (times_in n w₀) want (order_in n e w₀) (order_in n i w₀) (marks_in n w)

module _ (arcs : List Arc) (n e : ℕ) (want w₀ : List ℕ) (two : 2 ≤ n) where
  same_times : (w w' : List ℕ) → take (queue_words n) w' ≡ take (queue_words n) w → times_in n w' ≡ times_in n w
  same_times w w' s = times_kept n (queue_words n) w w' (omega arith) s

  -- w are the words before the marks were cleared.
  pub first : (w : List ℕ) → e ≤ n → length w₀ ≡ search_words n → take (queue_words n) w₀ ≡ take (queue_words n) w → marks_in n w₀ ≡ replicate n 0
      → Ordered n (times_in n w) (order_in n e w) → Standing arcs n e want w₀ e w₀
  first w r k s m o = record {
    room = r;
    size = k;
    kept = refl;
    passing = rw m (pass_first arcs n (times_in n w₀) want (order_in n e w₀) (rw (same_times w w₀ s, order_kept n w w₀ s e) o));
  }

  module _ (i : ℕ) (w : List ℕ) (g : Standing arcs n e want w₀ i w) (h : i < n) where
    -- The node at position i, and those that come after it.
    here : order_in n i w₀ ≡ get_or w (n + i) 0 ∷ order_in n (i + 1) w₀
    here = sym (order_kept n w₀ w g.kept i) ∙ (order_next n i w g.size h ∙ rw (order_kept n w₀ w g.kept (i + 1)))

    pub node_in : get_or w (n + i) 0 < n
    node_in = g.passing.ahead.inside (get_or w (n + i) 0) (rw here (Memᴰ.head refl))

    pub next : Positive arcs → (w' : List ℕ) → length w' ≡ length w → take (queue_words n) w' ≡ take (queue_words n) w
        → marks_in n w' ≡ turned arcs (times_in n w) want (marks_in n w) (get_or w (n + i) 0)
        → Standing arcs n e want w₀ (i + 1) w'
    next pos w' k s m = record {
      room = omega arith;
      size = k ∙ g.size;
      kept = s ∙ g.kept;
      passing = rw (m, same_times w₀ w g.kept) (pass_next arcs n (times_in n w₀) want (order_in n e w₀) pos (get_or w (n + i) 0) (order_in n (i + 1) w₀)
          (marks_in n w) (rw here at g.passing));
    }

  pub last : (i : ℕ) (w w' : List ℕ) → n ≤ i → take (queue_words n) w₀ ≡ take (queue_words n) w → Standing arcs n e want w₀ i w'
      → (take (queue_words n) w' ≡ take (queue_words n) w) × ((v : ℕ) → Flagged (marks_in n w') v ↔ Is arcs (times_in n w) (Flagged want) (order_in n e w) v)
  last i w w' h s g =
      let k : i ≡ n = omega (arith, g.room) in
      let u = rw (k, order_end n w₀, same_times w w₀ s, order_kept n w w₀ s e) at g.passing in
      (g.kept ∙ s, upto_end arcs (times_in n w) (Flagged want) (order_in n e w) u.upto)
