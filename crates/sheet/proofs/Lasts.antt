-- Which line holds for an edge: any that closes it, else the last one about it, where there is one. Assumes nothing.
use Prim.Native.Nat.{ℕ}
use native.Mathlib.Decide.{ℕ_discrete}
use mathlib.Core.Path.{◌≡◌, refl, sym, ◌∙◌, ap}
use mathlib.Core.Logic.{◌⊎◌, inl, inr}
use mathlib.Core.Bool.{Bool, true, false, true≢false, cond}
use mathlib.Core.List.Memᴰ
use mathlib.Core.List.{List, [], ◌∷◌, ◌++◌, Memᴰ}
use borrow.Author.Tests.{eq-eqb, ne_eqb, eqb-true}
use Rattle.model.specs.Lists.{any, range, filter}
use Rattle.model.specs.Bytes.{Bytes}
use Rattle.theory.specs.Tests.{refuted}
use Rattle.theory.specs.Members.{filter→, →filter, any→, →any}
use Rattle.sheet.specs.Sheet.{
  Line,
  line_count,
  lines_in,
  Effect,
  Effect.shut,
  Effect.delayed,
  closes,
  effect_of,
  is_about,
  about,
  last_effect,
  holds,
  NoneCloses,
  Last,
}

filter-append : {A : Type 0} (p : A → Bool) (xs ys : List A) → filter p (xs ++ ys) ≡ filter p xs ++ filter p ys
unfolding filter
filter-append p [] ys = refl
filter-append {A} p (x ∷ xs) ys = step (p x) (filter-append p xs ys)
  where
    step : (b : Bool) → filter p (xs ++ ys) ≡ filter p xs ++ filter p ys
        → cond b (x ∷ filter p (xs ++ ys)) (filter p (xs ++ ys)) ≡ cond b (x ∷ filter p xs) (filter p xs) ++ filter p ys
    step true e = ap (λ (l : List A). x ∷ l) e
    step false e = e

pub last_parts : (x : Effect) (ks ls : List Line) → last_effect x (ks ++ ls) ≡ last_effect (last_effect x ks) ls
unfolding last_effect
last_parts x [] ls = refl
last_parts x (l ∷ ks) ls = last_parts (effect_of l) ks ls

about_none : (i : ℕ) (ls : List Line) → ((k : Line) → Memᴰ k ls → k.edge ≡ i → ⊥) → about ls i ≡ []
unfolding about filter is_about
about_none i [] h = refl
about_none i (k ∷ ls) h = rw (ne_eqb k.edge i (h k (Memᴰ.head refl))) (unfold about in about_none i ls (λ l m. h l (Memᴰ.tail m)))

pub about_append : (i : ℕ) (ks ls : List Line) → about (ks ++ ls) i ≡ about ks i ++ about ls i
unfolding about
about_append i ks ls = filter-append (is_about i) ks ls

pub about→ : (i : ℕ) (ls : List Line) {k : Line} → Memᴰ k (about ls i) → Memᴰ k ls × (k.edge ≡ i)
unfolding about is_about
about→ i ls {k} m = let (n, e) = filter→ (is_about i) ls m in (n, eqb-true k.edge i e)

-- The last line about an edge, of all lines.
pub last_of : {ls : List Line} {i : ℕ} {l : Line} → Last ls i l → (x : Effect) → last_effect x (about ls i) ≡ effect_of l
unfolding last_effect
last_of {ls} {i} {l} h x = ap (last_effect x) lines ∙ last_parts x (about h.before i) (l ∷ [])
  where
    this : about (l ∷ h.after) i ≡ l ∷ []
    this = unfold about filter is_about in rw (eq-eqb l.edge i h.named) (ap (λ r. l ∷ r) (unfold about in about_none i h.after h.others))

    lines : about ls i ≡ about h.before i ++ (l ∷ [])
    lines = rw h.all (about_append i h.before (l ∷ h.after) ∙ ap (λ r. about h.before i ++ r) this)

-- Whether some line closes the edge.
some_closes : {ls : List Line} {i : ℕ} {l : Line} → Memᴰ l ls → l.edge ≡ i → closes l ≡ true → any closes (about ls i) ≡ true
unfolding about is_about
some_closes {ls} {i} {l} m e h = →any closes (about ls i) (→filter (is_about i) ls m (eq-eqb l.edge i e)) h

none_closes : {ls : List Line} {i : ℕ} → NoneCloses ls i → any closes (about ls i) ≡ false
none_closes {ls} {i} h = refuted (λ e. found (any→ closes (about ls i) e))
  where
    found : (k : Line) × Memᴰ k (about ls i) × (closes k ≡ true) → ⊥
    found (k, m, c) = let (n, e) = about→ i ls m in true≢false (sym c ∙ h k n e)

pub closure_holds : {ls : List Line} {i : ℕ} {l : Line} → Memᴰ l ls → l.edge ≡ i → closes l ≡ true → holds ls i ≡ shut
unfolding holds
closure_holds m e h = rw (some_closes m e h)

pub last_holds_law : {ls : List Line} {i : ℕ} {l : Line} → NoneCloses ls i → Last ls i l → holds ls i ≡ effect_of l
unfolding holds
last_holds_law o h = rw (none_closes o) (last_of h (delayed 0))

pub none_holds : {ls : List Line} {i : ℕ} → ((k : Line) → Memᴰ k ls → k.edge ≡ i → ⊥) → holds ls i ≡ delayed 0
unfolding holds last_effect any
none_holds {ls} {i} h = rw (about_none i ls h)

is_shut : Effect → Bool
is_shut shut = true
is_shut (delayed n) = false

-- Where the edge is left open, no line closes it.
pub left_open : {ls : List Line} {i n : ℕ} → holds ls i ≡ delayed n → NoneCloses ls i
unfolding is_shut
left_open h k m e = refuted (λ c. true≢false (ap is_shut (sym (closure_holds m e c) ∙ h)))

-- Some line about a road is the last, or there is none.
pub which : (i : ℕ) (ls : List Line) → ((l : Line) × Last ls i l) ⊎ ((k : Line) → Memᴰ k ls → k.edge ≡ i → ⊥)
which i [] = inr (λ k m e. Memᴰ.not-nil m)
which i (k ∷ ls) = step (which i ls) (ℕ_discrete k.edge i)
  where
    step : ((l : Line) × Last ls i l) ⊎ ((l : Line) → Memᴰ l ls → l.edge ≡ i → ⊥) → Dec (k.edge ≡ i)
        → ((l : Line) × Last (k ∷ ls) i l) ⊎ ((l : Line) → Memᴰ l (k ∷ ls) → l.edge ≡ i → ⊥)
    step (inl (l, h)) d =
        inl (l, record { before = k ∷ h.before; after = h.after; all = ap (λ r. k ∷ r) h.all; named = h.named; others = h.others })
    step (inr h) (yes e) = inl (k, record { before = []; after = ls; all = refl; named = e; others = h })
    step (inr h) (no n) = inr (λ l m e. pick l e (Memᴰ.cases_cons m))
      where
        pick : (l : Line) → l.edge ≡ i → (l ≡ k) ⊎ Memᴰ l ls → ⊥
        pick l e (inl q) = n (sym (ap (λ (x : Line). x.edge) q) ∙ e)
        pick l e (inr m) = h l m e

-- ---- a sheet without lines
module _ (b : Bytes) (empty : line_count b ≡ 0) where
  pub no_lines : lines_in b ≡ []
  unfolding lines_in range
  no_lines = rw empty

  pub none_held : (i : ℕ) → holds (lines_in b) i ≡ delayed 0
  none_held i = rw no_lines (none_holds {ls = []} {i = i} (λ k m e. Memᴰ.not-nil m))
