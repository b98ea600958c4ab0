-- Laws of the lines' effects as the code reads them. Assumes nothing.
use Prim.Native.Nat.{ℕ, ◌+◌, ◌≤◌, ◌<◌}
use native.Mathlib.Omega.{arith}
use mathlib.Core.Path.{◌≡◌, refl, sym, ◌∙◌}
use mathlib.Core.Bool.{Bool, true, false, cond, ◌||◌}
use mathlib.Core.List.{List, [], ◌∷◌, map}
use lib.Dec.{eqb}
use borrow.Author.Tests.{eq-eqb, ne_eqb}
use Rattle.std.specs.Prelude.{Option, Some, None}
use Rattle.model.specs.Lists.{any, filter}
use Rattle.model.specs.Bytes.{Bytes}
use Rattle.theory.specs.RangeLaws.{rest, rest_step, rest_end, rest_all}
use Rattle.sheet.specs.Sheet.{Line, Effect, Effect.shut, Effect.delayed, line, line_count, lines_in, closes, effect_of, is_about, about, last_effect, holds}
use Rattle.sheet.specs.Codes.{status_of, effect_in, held_after, lines_from}
use Rattle.sheet.specs.declared.lines.Status.{Status}
use Rattle.sheet.specs.declared.lines.Status.TheVariants.{Closed, Delayed as Slowed}
use Rattle.sheet.specs.declared.lines.Effect.{Effect as Done}
use Rattle.sheet.specs.declared.lines.Effect.TheVariants.{Shut, Delayed}

-- ---- a line alone

-- The first byte x, as the code has read it.
module _ (l : Line) (x : ℕ) (p : x ≡ l.status) where
  pub status_closed : x ≡ 1 → Some Closed ≡ status_of l
  unfolding status_of
  status_closed q = rw (eq-eqb l.status 1 (sym p ∙ q))

  pub status_slowed : x ≡ 2 → Some Slowed ≡ status_of l
  unfolding status_of
  status_slowed q = rw (eq-eqb l.status 2 (sym p ∙ q), ne_eqb l.status 1 (λ z. omega arith))

  pub status_none : (x ≡ 1 → ⊥) → (x ≡ 2 → ⊥) → None ≡ status_of l
  unfolding status_of
  status_none q r = rw (ne_eqb l.status 1 (λ z. q (p ∙ z)), ne_eqb l.status 2 (λ z. r (p ∙ z)))

module _ (l : Line) where
  first_is : (a b : Bool) → cond a (Some Closed) (cond b (Some Slowed) None) ≡ Some Closed → a ≡ true
  first_is true b e = refl
  first_is false true e = cc
  first_is false false e = cc

  pub as_closed : Some Closed ≡ status_of l → effect_in Shut ≡ effect_of l
  unfolding status_of effect_in effect_of closes
  as_closed e = rw (first_is (eqb l.status 1) (eqb l.status 2) (sym e))

  pub as_delayed : (s : Option Status) (y : ℕ) → s ≡ status_of l → (s ≡ Some Closed → ⊥) → y ≡ l.added → effect_in (Delayed y) ≡ effect_of l
  unfolding status_of effect_in effect_of closes
  as_delayed s y e q r = rw r (pick (eqb l.status 1) (eqb l.status 2) e)
    where
      pick : (a b : Bool) → s ≡ cond a (Some Closed) (cond b (Some Slowed) None) → delayed l.added ≡ cond a shut (delayed l.added)
      pick true b f = absurd (q f)
      pick false b f = refl

pub open_delayed : (a : ℕ) → effect_in (Delayed a) ≡ shut → ⊥
unfolding effect_in
open_delayed a z = cc

-- ---- line after line

-- What these lines do after x.
unfoldable pub held_all : Effect → List Line → Effect
held_all x [] = x
held_all x (l ∷ ls) = held_all (held_after x (effect_of l)) ls

-- What the lines from k to before the end do to edge i after x.
unfoldable pub from : Bytes → ℕ → ℕ → ℕ → Effect → Effect
from b i end k x = held_all x (about (lines_from b k end) i)

pub from_step : (b : Bytes) (i end k : ℕ) (x : Effect) → k < end
    → from b i end k x ≡ from b i end (k + 1) (cond (is_about i (line b k)) (held_after x (effect_of (line b k))) x)
unfolding from lines_from about filter held_all
from_step b i end k x h = rw (rest_step k end h) (pick (is_about i (line b k)))
  where
    later : List Line
    later = map (line b) (rest (k + 1) end)

    pick : (c : Bool) → held_all x (cond c (line b k ∷ filter (is_about i) later) (filter (is_about i) later))
        ≡ held_all (cond c (held_after x (effect_of (line b k))) x) (filter (is_about i) later)
    pick true = refl
    pick false = refl

-- A line about another edge changes nothing.
pub from_other : (b : Bytes) (i end k e : ℕ) (x : Effect) → k < end → e ≡ (line b k).edge → (e ≡ i → ⊥) → from b i end k x ≡ from b i end (k + 1) x
unfolding is_about
from_other b i end k e x h p q = from_step b i end k x h ∙ rw (ne_eqb (line b k).edge i (λ z. q (p ∙ z))) refl

-- One about the edge holds, but after a closure.
pub from_about : (b : Bytes) (i end k e : ℕ) (x : Effect) → k < end → e ≡ (line b k).edge → e ≡ i → (x ≡ shut → ⊥) → {y : Effect} → y ≡ effect_of (line b k)
    → from b i end k x ≡ from b i end (k + 1) y
unfolding is_about held_after
from_about b i end k e shut h p q n r = absurd (n refl)
from_about b i end k e (delayed a) h p q n r = from_step b i end k (delayed a) h ∙ rw (eq-eqb (line b k).edge i (sym p ∙ q), r) refl

pub from_end : (b : Bytes) (i end k : ℕ) (x : Effect) → end ≤ k → from b i end k x ≡ x
unfolding from lines_from about filter held_all
from_end b i end k x h = rw (rest_end k end h)

shut_stays : (ls : List Line) → held_all shut ls ≡ shut
unfolding held_all held_after
shut_stays [] = refl
shut_stays (l ∷ ls) = shut_stays ls

pub from_shut : (b : Bytes) (i end k : ℕ) → from b i end k shut ≡ shut
unfolding from
from_shut b i end k = shut_stays (about (lines_from b k end) i)

-- Line after line they do what the definition says.
all_held : (n : ℕ) (ls : List Line) → held_all (delayed n) ls ≡ cond (any closes ls) shut (last_effect (delayed n) ls)
unfolding held_all held_after any last_effect effect_of
all_held n [] = refl
all_held n (l ∷ ls) = step (closes l) (all_held l.added ls)
  where
    step : (c : Bool) → held_all (delayed l.added) ls ≡ cond (any closes ls) shut (last_effect (delayed l.added) ls)
        → held_all (cond c shut (delayed l.added)) ls ≡ cond (c || any closes ls) shut (last_effect (cond c shut (delayed l.added)) ls)
    step true e = shut_stays ls
    step false e = e

pub from_first : (b : Bytes) (i first end : ℕ) → from b i end first (delayed 0) ≡ holds (lines_from b first end) i
unfolding from holds
from_first b i first end = all_held 0 (about (lines_from b first end) i)

pub lines_all : (b : Bytes) (m : ℕ) → m ≡ line_count b → lines_from b 0 m ≡ lines_in b
unfolding lines_from lines_in
lines_all b m e = rw (e, ← rest_all (line_count b))
