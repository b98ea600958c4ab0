-- A walk over the arcs out of v that stops at the first which passes a test p: none of those passed does. Assumes nothing.
use Prim.Native.Nat.{ℕ, ◌<◌, ◌≤◌}
use mathlib.Core.Path.{◌≡◌, sym, ap, ◌∙◌}
use mathlib.Core.Bool.{Bool, true, false, true≢false}
use mathlib.Core.Logic.{⊎_elim}
use mathlib.Core.List.Memᴰ
use mathlib.Core.List.{List, [], ◌∷◌, ◌++◌, Memᴰ}
use borrow.Author.Tests.{eq-eqb}
use Rattle.model.specs.Lists.{any}
use Rattle.model.specs.Bytes.{Bytes}
use Rattle.model.specs.Walk.{Arc}
use Rattle.theory.specs.Tests.{refuted}
use Rattle.theory.specs.Members.{any→, →any, filter→, →filter}
use Rattle.sheet.specs.ArcsUnder.{arcs_under}
use Rattle.arcs.specs.Arcs.{leaves, leaving}
use Rattle.arcs.specs.declared.leaving.ArcAt.{ArcAt}
use Rattle.arcs.specs.Leaving.{arc_here, PassedArcs, SteppedArc}
use Rattle.arcs.proofs.Step.{mem_split}

pub record Unmet (p : Arc → Bool) (edges lines : Bytes) (n : ℕ) (w : List ℕ) (v : ℕ) (a : ArcAt) : Type 0 where
  pub done : List Arc
  pub passes : PassedArcs edges lines n w v done a
  pub none : (x : Arc) → Memᴰ x done → p x ≡ false

module _ (p : Arc → Bool) (edges lines : Bytes) (n : ℕ) (w : List ℕ) (v : ℕ) (a : ArcAt) where
  pub unmet_first : PassedArcs edges lines n w v [] a → Unmet p edges lines n w v a
  unmet_first h = record { done = []; passes = h; none = λ x m. absurd (Memᴰ.not-nil m) }

  module _ (u : Unmet p edges lines n w v a) where
    pub unmet_next : (r : Bool) (a' : ArcAt) → r ≡ false → r ≡ p (arc_here v a) → SteppedArc edges lines n w v a a' → Unmet p edges lines n w v a'
    unmet_next r a' e f s =
        record {
          done = u.done ++ arc_here v a ∷ [];
          passes = s.passes u.done u.passes;
          none =
              λ x m. ⊎_elim (λ k. u.none x k) (λ q. ap p q ∙ sym f ∙ e) (mem_split x (arc_here v a) u.done m);
        }

    pub met : (r : Bool) → r ≡ true → r ≡ p (arc_here v a) → a.to < n → true ≡ any p (arcs_under edges lines)
    unfolding leaving
    met r e f l = sym (→any p (arcs_under edges lines) (filter→ (leaves v) (arcs_under edges lines) (u.passes.here l)).0 (sym f ∙ e))

    pub unmet_last : n ≤ a.to → ((x : Arc) → p x ≡ true → x.from ≡ v) → false ≡ any p (arcs_under edges lines)
    unfolding leaving leaves
    unmet_last h from = sym (refuted (λ e. none_such (any→ p (arcs_under edges lines) e)))
      where
        none_such : (x : Arc) × Memᴰ x (arcs_under edges lines) × (p x ≡ true) → ⊥
        none_such (x, m, t) = true≢false (sym t ∙ u.none x ((u.passes.all h x).1
            (→filter (leaves v) (arcs_under edges lines) m (eq-eqb x.from v (from x t)))))
