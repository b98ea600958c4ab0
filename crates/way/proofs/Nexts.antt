-- The lowest of the next nodes, one arc at a time. Assumes nothing.
use Prim.Native.Nat.{ℕ, ◌≤◌, min}
use native.Mathlib.Omega.{arith}
use mathlib.Core.Path.{◌≡◌, refl, sym, ap, ◌∙◌, subst}
use mathlib.Core.Logic.{⊎_elim}
use mathlib.Core.Bool.{Bool, true, false, cond, ◌&&◌}
use mathlib.Core.List.Memᴰ
use mathlib.Core.List.{List, [], ◌∷◌, ◌++◌, map, Memᴰ}
use borrow.Author.Tests.{eq-eqb}
use lib.Dec.{eqb}
use Rattle.model.specs.Lists.{filter, least_of}
use Rattle.model.specs.Bytes.{Bytes}
use Rattle.model.specs.Walk.{Arc}
use Rattle.model.specs.Distance.{Distance, finite, plus, agree}
use Rattle.model.specs.Query.{nexts}
use Rattle.theory.specs.Tests.{both}
use Rattle.theory.specs.Members.{map→, →map, filter→, →filter}
use Rattle.theory.specs.Extremes.{least_of_mem, least_of_le}
use Rattle.sheet.specs.ArcsUnder.{arcs_under}
use Rattle.arcs.specs.Arcs.{leaves, leaving}
use Rattle.arcs.specs.declared.leaving.ArcAt.{ArcAt}
use Rattle.arcs.specs.Leaving.{arc_here, PassedArcs, SteppedArc}

-- The least over two lists with the same members.
least_same : (s : ℕ) (xs ys : List ℕ) → ((x : ℕ) → Memᴰ x xs → Memᴰ x ys) → ((x : ℕ) → Memᴰ x ys → Memᴰ x xs) → least_of s xs ≡ least_of s ys
least_same s xs ys f g = let p = below xs ys f in let q = below ys xs g in omega arith
  where
    below : (xs ys : List ℕ) → ((x : ℕ) → Memᴰ x xs → Memᴰ x ys) → least_of s ys ≤ least_of s xs
    below xs ys f = least_of_le s ys (⊎_elim (λ e. Memᴰ.head e) (λ m. Memᴰ.tail (f (least_of s xs) m)) (Memᴰ.cases_cons (least_of_mem s xs)))

module _ (d : ℕ → Distance) (u : ℕ) where
  abbrev test : Arc → Bool
  test a = eqb a.from u && agree (plus (finite a.cost) (d a.to)) (d u)

  -- Arcs out of u that are among others give next nodes that are among those of the others.
  nexts_part : (xs ys : List Arc) → ((a : Arc) → Memᴰ a xs → eqb a.from u ≡ true → Memᴰ a ys) → (x : ℕ) → Memᴰ x (nexts d xs u)
      → Memᴰ x (nexts d ys u)
  unfolding nexts
  nexts_part xs ys part x m =
      let (a, k, e) = map→ (λ z. z.to) (filter test xs) m in
      let f = filter→ test xs k in
      let q = →filter test ys (part a f.0 (both {b = eqb a.from u} f.1).0) f.1 in
      subst (λ (z : ℕ). Memᴰ z (nexts d ys u)) (sym e) (→map (λ z. z.to) (filter test ys) q)

  -- Over two lists: over the first, and then over the second.
  lowest_append : (xs ys : List Arc) (s : ℕ) → least_of s (nexts d (xs ++ ys) u) ≡ least_of (least_of s (nexts d xs u)) (nexts d ys u)
  unfolding nexts filter least_of
  lowest_append [] ys s = refl
  lowest_append (a ∷ xs) ys s = step (test a) (lowest_append xs ys (min s a.to)) (lowest_append xs ys s)
    where
      step : (b : Bool)
          → least_of (min s a.to) (nexts d (xs ++ ys) u) ≡ least_of (least_of (min s a.to) (nexts d xs u)) (nexts d ys u)
          → least_of s (nexts d (xs ++ ys) u) ≡ least_of (least_of s (nexts d xs u)) (nexts d ys u)
          → least_of s (map (λ x. x.to) (cond b (a ∷ filter test (xs ++ ys)) (filter test (xs ++ ys)))) ≡ least_of
          (least_of s (map (λ x. x.to) (cond b (a ∷ filter test xs) (filter test xs)))) (nexts d ys u)
      step true p q = p
      step false p q = q

  -- ---- one arc out of u: r is what the code makes of s
  arc_next : (v c s left r : ℕ) → d u ≡ finite left → r ≡ cond (agree (plus (finite c) (d v)) (finite left)) (min s v) s
      → r ≡ least_of s (nexts d (record { from = u; to = v; cost = c } ∷ []) u)
  unfolding nexts filter least_of
  arc_next v c s left r h z = z ∙ step (agree (plus (finite c) (d v)) (finite left)) refl
    where
      step : (b : Bool) → agree (plus (finite c) (d v)) (finite left) ≡ b
          → cond b (min s v) s ≡ least_of s (nexts d (record { from = u; to = v; cost = c } ∷ []) u)
      step true k = rw (eq-eqb u u refl, h, k)
      step false k = rw (eq-eqb u u refl, h, k)

  -- ---- the arcs out of u, as a walk passes them: r is the lowest over those passed
  pub record Lowered (edges lines : Bytes) (n : ℕ) (w : List ℕ) (best : ℕ) (a : ArcAt) (r : ℕ) : Type 0 where
    pub done : List Arc
    pub passes : PassedArcs edges lines n w u done a
    pub low : r ≡ least_of best (nexts d done u)

  module _ (edges lines : Bytes) (n : ℕ) (w : List ℕ) (best : ℕ) (a : ArcAt) where
    pub lowered_first : PassedArcs edges lines n w u [] a → Lowered edges lines n w best a best
    lowered_first p = record { done = []; passes = p; low = unfold nexts filter least_of in refl }

    module _ (r : ℕ) (l : Lowered edges lines n w best a r) where
      pub lowered_next : (left r' : ℕ) (a' : ArcAt) → d u ≡ finite left → r' ≡ cond (agree (plus (finite a.cost) (d a.to)) (finite left)) (min r a.to)
          r → SteppedArc edges lines n w u a a'
          → Lowered edges lines n w best a' r'
      lowered_next left r' a' h e s = record {
        done = l.done ++ arc_here u a ∷ [];
        passes = s.passes l.done l.passes;
        low = arc_next a.to a.cost r left r' h e ∙ ap (λ (z : ℕ). least_of z (nexts d (arc_here u a ∷ []) u)) l.low
            ∙ sym (lowest_append l.done (arc_here u a ∷ []) best);
      }

      -- Only the set of arcs matters, and of those only the ones that leave u.
      pub lowered_last : n ≤ a.to → r ≡ least_of best (nexts d (arcs_under edges lines) u)
      unfolding leaving leaves
      lowered_last h =
          let all : List Arc = arcs_under edges lines in
          l.low ∙ least_same best (nexts d l.done u) (nexts d all u)
          (λ x m. nexts_part l.done all (λ y k e. (filter→ (leaves u) all ((l.passes.all h y).0 k)).0) x m)
          (λ x m. nexts_part all l.done (λ y k e. (l.passes.all h y).1 (→filter (leaves u) all k e)) x m)
