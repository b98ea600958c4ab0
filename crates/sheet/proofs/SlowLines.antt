-- Rule 20 line by line: an edge is too slow just where one of its own lines would make it so and what holds for it does. Assumes nothing.
use Prim.Native.Nat.{ℕ, ◌+◌, ◌<◌}
use native.Mathlib.Omega.{arith}
use mathlib.Core.Path.{◌≡◌, refl, sym, ◌∙◌, ap, subst}
use mathlib.Core.Logic.{◌⊎◌, inl, inr}
use mathlib.Core.Bool.{true, false, ◌&&◌, true≢false}
use mathlib.Core.List.{List, Memᴰ}
use lib.Dec.{ltb}
use borrow.Author.Tests.{ltb-true, leb-false, lt-ltb}
use Rattle.model.specs.Lists.{any, up_to}
use Rattle.model.specs.Bytes.{Bytes}
use Rattle.model.specs.Network.{Edge, edge, edge_count, max_seconds, some_edge_broken}
use Rattle.theory.specs.Tests.{both, and, same_test}
use Rattle.theory.specs.Members.{→map, →up_to, any→, →any, none_any}
use Rattle.theory.specs.Sound as sound
use Rattle.sheet.specs.Sheet.{Line, Effect, Effect.shut, Effect.delayed, line, line_count, lines_in, effect_of, holds, Last, names_none}
use Rattle.sheet.specs.Under.{left_of, edges_under, too_slow}
use Rattle.sheet.specs.ArcsUnder.{left_under}
use Rattle.sheet.specs.Codes.{effect_in}
use Rattle.sheet.specs.declared.lines.Effect.{Effect as Done}
use Rattle.sheet.specs.declared.lines.Effect.TheVariants.{Shut, Delayed}
use Rattle.sheet.specs.Slow.{over_by, line_slow, Quick}
use Rattle.sheet.proofs.Lasts.{last_holds_law, none_holds, left_open, which}
use Rattle.sheet.proofs.Ground.{left→, →left, under→, →under}

-- Edges that keep rule 6.
pub quick : (n : ℕ) (b : Bytes) → some_edge_broken n b ≡ false → Quick b
quick n b ok i h = (sound.edge_fine n b ok i h).at_most

-- ---- an effect as the code has it
pub over_shut : (e : Edge) → false ≡ over_by (effect_in Shut) e
unfolding effect_in over_by
over_shut e = refl

pub over_delayed : (x s : ℕ) (e : Edge) → s ≡ e.seconds → ltb max_seconds (s + x) ≡ over_by (effect_in (Delayed x)) e
unfolding effect_in over_by
over_delayed x s e p = rw p

-- ---- the ways out of the check of a line
module _ (effect : ℕ → Effect) (b : Bytes) (l : Line) (i : ℕ) (x : Done) (p : i ≡ l.edge) (q : effect_in x ≡ effect_of l) where
  pub not_over : over_by (effect_in x) (edge b i) ≡ false → false ≡ line_slow effect b l
  unfolding line_slow
  not_over h = rw (← q, ← p, h)

  pub by_held : (y : Done) → over_by (effect_in x) (edge b i) ≡ true → effect_in y ≡ effect i
      → over_by (effect_in y) (edge b i) ≡ line_slow effect b l
  unfolding line_slow
  by_held y h e = rw (← q, ← p, h, e)

-- ---- an edge that what holds for it takes over the limit
pub record SlowEdge (effect : ℕ → Effect) (b : Bytes) : Type 0 where
  pub i : ℕ
  pub below : i < edge_count b
  pub added : ℕ
  pub delays : effect i ≡ delayed added
  pub over : max_seconds < (edge b i).seconds + added

module _ (effect : ℕ → Effect) (b : Bytes) where
  pub slow→ : any too_slow (edges_under effect b) ≡ true → SlowEdge effect b
  unfolding too_slow left_of
  slow→ h =
      let (e, m, s) = any→ too_slow (edges_under effect b) h in
      let (i, l, k) = under→ effect b m in
      let (n, p, q) = left→ (effect i) (edge b i) k in
      let z : max_seconds < e.seconds = ltb-true max_seconds e.seconds s in
      record { i = i; below = l; added = n; delays = p; over = omega (arith, z, ap (λ (e : Edge). e.seconds) q) }

  pub →slow : SlowEdge effect b → any too_slow (edges_under effect b) ≡ true
  unfolding too_slow left_of
  →slow z =
      let m = →under effect b z.below (→left (edge b z.i) z.delays refl) in
      →any too_slow (edges_under effect b) m (lt-ltb max_seconds ((edge b z.i).seconds + z.added) z.over)

over→ : (x : Effect) (e : Edge) → over_by x e ≡ true → (n : ℕ) × (x ≡ delayed n) × (max_seconds < e.seconds + n)
unfolding over_by
over→ shut e h = absurd (true≢false (sym h))
over→ (delayed n) e h = (n, refl, ltb-true max_seconds (e.seconds + n) h)

→over : {x : Effect} (e : Edge) {n : ℕ} → x ≡ delayed n → max_seconds < e.seconds + n → over_by x e ≡ true
unfolding over_by
→over e {n = n} p h = rw p (lt-ltb max_seconds (e.seconds + n) h)

added_in : Effect → ℕ
added_in shut = 0
added_in (delayed n) = n

-- Its last line makes it so: no edge is over the limit by itself.
pub slow_last : (b : Bytes) (ls : List Line) → Quick b → (z : SlowEdge (holds ls) b) → (l : Line) × Last ls z.i l
slow_last b ls at_most z = step (which z.i ls)
  where
    step : ((l : Line) × Last ls z.i l) ⊎ ((k : Line) → Memᴰ k ls → k.edge ≡ z.i → ⊥) → (l : Line) × Last ls z.i l
    step (inl r) = r
    step (inr h) =
        let e : 0 ≡ z.added = unfold added_in in ap added_in (sym (none_holds h) ∙ z.delays) in
        absurd (omega (arith, z.over, at_most z.i z.below))

module _ (b : Bytes) (ls : List Line) (at_most : Quick b) (named : any (names_none (edge_count b)) ls ≡ false) where
  to : SlowEdge (holds ls) b → any (line_slow (holds ls) b) ls ≡ true
  unfolding line_slow
  to z =
      let (l, r) = slow_last b ls at_most z in
      let s : over_by (holds ls z.i) (edge b z.i) ≡ true = →over (edge b z.i) z.delays z.over in
      let m : Memᴰ l ls = subst (Memᴰ l) (sym r.all) (mathlib.Core.List.Memᴰ.append_right r.before (mathlib.Core.List.Memᴰ.head refl)) in
      →any (line_slow (holds ls) b) ls m
      (subst (λ (i : ℕ). (over_by (effect_of l) (edge b i) && over_by (holds ls i) (edge b i)) ≡ true) (sym r.named)
      (and (→over (edge b z.i) (sym (last_holds_law (left_open z.delays) r) ∙ z.delays) z.over) s))

  line_named : {l : Line} → Memᴰ l ls → l.edge < edge_count b
  unfolding names_none
  line_named {l} m = leb-false (edge_count b) l.edge (none_any (names_none (edge_count b)) ls named m)

  back : any (line_slow (holds ls) b) ls ≡ true → SlowEdge (holds ls) b
  unfolding line_slow
  back h =
      let (l, m, s) = any→ (line_slow (holds ls) b) ls h in
      let t = both {b = over_by (effect_of l) (edge b l.edge)} s in
      let (n, p, q) = over→ (holds ls l.edge) (edge b l.edge) t.1 in
      record { i = l.edge; below = line_named m; added = n; delays = p; over = q }

  slow_by_lines : any too_slow (edges_under (holds ls) b) ≡ any (line_slow (holds ls) b) ls
  slow_by_lines = same_test (λ h. to (slow→ (holds ls) b h)) (λ h. →slow (holds ls) b (back h))

-- ---- over bodies
module _ (b lines : Bytes) (at_most : Quick b) (named : any (names_none (edge_count b)) (lines_in lines) ≡ false) where
  pub slow_lines : any too_slow (left_under b lines) ≡ any (line_slow (holds (lines_in lines)) b) (lines_in lines)
  unfolding left_under
  slow_lines = slow_by_lines b (lines_in lines) at_most named

  pub names_edge : (k : ℕ) → k < line_count lines → (line lines k).edge < edge_count b
  unfolding lines_in
  names_edge k h = line_named b (lines_in lines) at_most named (→map (line lines) (up_to (line_count lines)) (→up_to (line_count lines) k h))
