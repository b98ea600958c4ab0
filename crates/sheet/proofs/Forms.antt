-- Rule 18, test by test: the ways out of the checks of a sheet's form and of a line. Assumes nothing.
use Prim.Native.Nat.{ℕ, ◌+◌, ◌-◌, ◌%◌, ◌≤◌}
use native.Mathlib.Omega.{arith}
use mathlib.Core.Path.{◌≡◌, refl, sym, ◌∙◌, ap}
use mathlib.Core.Bool.{Bool, true, false, not, cond, ◌&&◌, ◌||◌, or-true}
use mathlib.Core.List.{[], ◌∷◌}
use lib.ListN.{length, take, drop, length-drop}
use lib.Seq.{length-take-le}
use lib.Dec.{eqb, ltb}
use borrow.Author.Tests.{eq-eqb, ne_eqb, ltb-false, eqb-true}
use Rattle.model.specs.Lists.{gapless, any}
use Rattle.model.specs.Bytes.{Bytes, byte, word32, cut}
use Rattle.model.specs.Contents.{entry, entry_at, body_part, body, contents_broken}
use Rattle.theory.specs.Passed.{or-false, not-false}
use Rattle.theory.specs.Tests.{both}
use Rattle.std.specs.Prelude.{Option, Some, None}
use Rattle.sheet.specs.Codes.{status_of}
use Rattle.sheet.specs.declared.lines.Status.{Status}
use Rattle.sheet.specs.declared.lines.Status.TheVariants.{Closed, Delayed as Slowed}
use Rattle.sheet.specs.Sheet.{Line, lines_in, line_body, closes, line_broken, form_broken, sheet_broken}

-- ---- the form
module _ (sheet : Bytes) where
  -- The joins of the one body.
  abbrev joins : Bool
  joins = gapless (entry_at 1) (body_part sheet 0 ∷ []) (length sheet)

  pub has_contents : contents_broken 1 1 sheet ≡ false → 11 ≤ length sheet
  unfolding contents_broken entry_at
  has_contents h =
      ltb-false (length sheet) 11
      (or-false (ltb (length sheet) 2 || not (eqb (byte sheet 0) 1) || not (eqb (byte sheet 1) 1)) (ltb (length sheet) 11) h).1

  pub by_contents : contents_broken 1 1 sheet ≡ true → true ≡ form_broken sheet
  unfolding form_broken
  by_contents h = rw h

  pub by_kind : (x : ℕ) → x ≡ byte sheet 2 → (x ≡ 8 → ⊥) → true ≡ form_broken sheet
  unfolding form_broken entry entry_at
  by_kind x e ne = rw (← e) (simp (ne_eqb x 8 ne, or-true))

  pub by_offset : (x : ℕ) → x ≡ word32 sheet 3 → (x ≡ 11 → ⊥) → true ≡ form_broken sheet
  unfolding form_broken entry entry_at body_part gapless
  by_offset x e ne = rw (← e) (simp (ne_eqb x 11 ne, or-true))

  pub by_size : (x : ℕ) → x ≡ word32 sheet 7 → (11 + x ≡ length sheet → ⊥) → true ≡ form_broken sheet
  unfolding form_broken entry entry_at body_part gapless
  by_size x e ne = rw (← e) (simp (ne_eqb (11 + x) (length sheet) ne, and-false, or-true))
    where
      and-false : (b : Bool) → b && false ≡ false
      and-false true = refl
      and-false false = refl

  -- What the entry tells where its body stands directly behind it and ends the sheet.
  module _ (x y : ℕ) (p : x ≡ word32 sheet 3) (q : x ≡ 11) (r : y ≡ word32 sheet 7) (s : 11 + y ≡ length sheet) where
    body_part_law : line_body sheet ≡ take y (drop 11 sheet)
    unfolding body cut body_part entry entry_at
    body_part_law = rw (← r, sym p ∙ q)

    body_length : length (line_body sheet) ≡ y
    body_length = ap length body_part_law ∙ length-take-le y (drop 11 sheet) (simp length-drop (omega arith))

    joined : joins ≡ true
    unfolding gapless body_part entry entry_at
    joined = rw (← p, ← r, eq-eqb x 11 q, eq-eqb (11 + y) (length sheet) s)

    kind : (k : ℕ) → k ≡ byte sheet 2 → k ≡ 8 → eqb (entry sheet 0).kind 8 ≡ true
    unfolding entry entry_at
    kind k e z = rw (← e) (eq-eqb k 8 z)

    pub by_part : (k : ℕ) → contents_broken 1 1 sheet ≡ false → k ≡ byte sheet 2 → k ≡ 8 → not (eqb (y % 7) 0) ≡ form_broken sheet
    unfolding form_broken
    by_part k h e z = rw (h, kind k e z, joined, body_length)

  -- The lines of a sheet of the right form.
  pub has_body : form_broken sheet ≡ false → (11 ≤ length sheet) × (line_body sheet ≡ take (length sheet - 11) (drop 11 sheet))
  unfolding form_broken gapless body_part entry entry_at
  has_body h =
      let first : Bool = contents_broken 1 1 sheet || not (eqb (byte sheet 2) 8) in
      let whole : Bool = eqb (word32 sheet 3) 11 && eqb (11 + word32 sheet 7) (length sheet) in
      let kept = (or-false (first || not whole) (not (eqb (length (line_body sheet) % 7) 0)) h).0 in
      let parts = both {b = eqb (word32 sheet 3) 11} (not-false (or-false first (not whole) kept).1) in
      let start : word32 sheet 3 ≡ 11 = eqb-true (word32 sheet 3) 11 parts.0 in
      let end : 11 + word32 sheet 7 ≡ length sheet = eqb-true (11 + word32 sheet 7) (length sheet) parts.1 in
      let size : word32 sheet 7 ≡ length sheet - 11 = omega arith in
      (omega arith, body_part_law (word32 sheet 3) (word32 sheet 7) refl start refl end ∙ ap (λ (k : ℕ). take k (drop 11 sheet)) size)

-- ---- a line

-- Whether a line is broken, by what its first byte says and whether it adds seconds.
abbrev pub verdict : Option Status → Bool → Bool
verdict (Some Closed) adds = adds
verdict (Some Slowed) adds = false
verdict None adds = true

pub by_status : (l : Line) (s : Option Status) (adds : Bool) → s ≡ status_of l → adds ≡ not (eqb l.added 0) → verdict s adds ≡ line_broken l
unfolding line_broken closes status_of
by_status l s adds p q = rw (p, q) (pick (eqb l.status 1) (eqb l.status 2) (not (eqb l.added 0)))
  where
    pick : (a b c : Bool) → verdict (cond a (Some Closed) (cond b (Some Slowed) None)) c ≡ (not (a || b) || (a && c))
    pick true b c = refl
    pick false true c = refl
    pick false false c = refl

-- ---- the form and the lines
pub by_form : (sheet : Bytes) → form_broken sheet ≡ true → true ≡ sheet_broken sheet
unfolding sheet_broken
by_form sheet h = rw h

pub by_lines : (sheet b : Bytes) → form_broken sheet ≡ false → b ≡ line_body sheet → any line_broken (lines_in b) ≡ sheet_broken sheet
unfolding sheet_broken
by_lines sheet b h e = rw (h, e)

pub kept_form : (sheet : Bytes) → sheet_broken sheet ≡ false → form_broken sheet ≡ false
unfolding sheet_broken
kept_form sheet h = (or-false (form_broken sheet) (any line_broken (lines_in (line_body sheet))) h).0
