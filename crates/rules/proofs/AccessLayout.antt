-- The lists of an access body, one after the other: the loop over them, and that each stands inside the body. Assumes nothing.
use Prim.Native.Nat.{ℕ, ◌+◌, ◌-◌, ◌*◌, ◌≤◌, ◌<◌}
use native.Mathlib.Omega.{arith}
use mathlib.Core.Path.{◌≡◌, refl, sym, ◌∙◌}
use mathlib.Core.Bool.{Bool, true, false, ◌&&◌, and-false}
use mathlib.Core.List.{List, [], ◌∷◌, map}
use lib.ListN.{length}
use lib.Dec.{eqb, leb}
use borrow.Author.Tests.{eq-eqb, ne_eqb, eqb-true, le-leb, lt-leb, leb-true, leb-false}
use Rattle.model.specs.Lists.{Part, gapless, up_to}
use Rattle.model.specs.Bytes.{Bytes, word16}
use Rattle.model.specs.Oracle.{start_size, count_size, list_size, list_start, list_count, list_part}
use Rattle.theory.specs.RangeLaws.{rest, rest_all, gapless_step}
use Rattle.theory.specs.Tests.{both}
use Rattle.theory.specs.Joined.{gapless_after, part_within}

-- Positions only grow, so parts that begin beyond the end do not end at it.
pub gapless_beyond : (at end : ℕ) (ps : List Part) → end < at → gapless at ps end ≡ false
unfolding gapless
gapless_beyond at end [] h = ne_eqb at end (λ e. omega arith)
gapless_beyond at end (p ∷ ps) h = rw (gapless_beyond (at + p.size) end ps (omega arith)) (and-false (eqb p.start at))

-- ---- each list stands before the end

-- What `gapless` says of the list of node u.
pub list_inside : (b : Bytes) (n u : ℕ) → gapless (start_size * n) (map (list_part b) (up_to n)) (length b) ≡ true → u < n
    → (start_size * u + start_size ≤ length b) × (list_start b u + (list_part b u).size ≤ length b)
unfolding list_part
list_inside b n u e h =
    let m = gapless_after (start_size * n) (length b) (map (list_part b) (up_to n)) e in
    (omega arith, part_within (list_part b) (start_size * n) n (length b) u e h)

-- ---- one list

-- The list of node u starts at `at` and ends inside the body.
abbrev pub fits : Bytes → ℕ → ℕ → Bool
fits b u at = eqb (list_start b u) at && leb (at + (list_part b u).size) (length b)

leb_shift : (x at l : ℕ) → at ≤ l → leb x (l - at) ≡ leb (at + x) l
leb_shift x at l h = step (leb (at + x) l) refl
  where
    step : (t : Bool) → leb (at + x) l ≡ t → leb x (l - at) ≡ t
    step true e = let p = leb-true (at + x) l e in le-leb x (l - at) (omega arith)
    step false e = let p = leb-false (at + x) l e in lt-leb x (l - at) (omega arith)

module _ (b : Bytes) (u at : ℕ) where
  pub unfit_start : (list_start b u ≡ at → ⊥) → fits b u at ≡ false
  unfit_start h = simp (ne_eqb (list_start b u) at h)

  pub unfit_count : length b < at + count_size → fits b u at ≡ false
  unfolding list_part
  unfit_count h =
      let l : length b < at + list_size (list_count b u) = omega arith in
      rw (lt-leb (at + list_size (list_count b u)) (length b) l) (and-false (eqb (list_start b u) at))

  pub fits_size : list_start b u ≡ at → at ≤ length b → (x : ℕ) → x ≡ list_size (word16 b at) → leb x (length b - at) ≡ fits b u at
  unfolding list_part list_count
  fits_size e h x q = leb_shift x at (length b) h ∙ rw (e, eq-eqb at at refl, ← q)

  pub fit_count : fits b u at ≡ true → at + count_size ≤ length b
  unfolding list_part
  fit_count e = let l : at + list_size (list_count b u) ≤ length b = leb-true _ _ (both {b = eqb (list_start b u) at} e).1 in omega arith

-- ---- the loop

-- The lists from that of node u on, which is to start at `at`.
abbrev pub lists_left : Bytes → ℕ → ℕ → ℕ → Bool
lists_left b at u n = gapless at (map (list_part b) (rest u n)) (length b)

pub lists_all : (b : Bytes) (n : ℕ) → gapless (start_size * n) (map (list_part b) (up_to n)) (length b) ≡ lists_left b (start_size * n) 0 n
lists_all b n = rw (← rest_all n)

module _ (b : Bytes) (at u n : ℕ) (h : u < n) where
  pub list_unfit : fits b u at ≡ false → lists_left b at u n ≡ false
  unfolding list_part
  list_unfit e = gapless_step (list_part b) at u n (length b) h ∙ step (eqb (list_start b u) at) e
    where
      step : (t : Bool) → t && leb (at + list_size (list_count b u)) (length b) ≡ false → t && lists_left b (at + list_size (list_count b u)) (u + 1) n ≡ false
      step false e = refl
      step true e = gapless_beyond _ (length b) _ (leb-false _ _ e)

  pub list_fit : fits b u at ≡ true → (x : ℕ) → x ≡ list_size (word16 b at) → (at + x ≤ length b) × (lists_left b at u n ≡ lists_left b (at + x) (u + 1) n)
  unfolding list_part list_count
  list_fit e x q =
      let p = both {b = eqb (list_start b u) at} e in
      let s : list_start b u ≡ at = eqb-true (list_start b u) at p.0 in
      let z : list_size (word16 b (list_start b u)) ≡ x = rw s (sym q) in
      let l : at + list_size (word16 b (list_start b u)) ≤ length b = leb-true _ _ p.1 in
      (omega arith, gapless_step (list_part b) at u n (length b) h ∙ rw (p.0, z))
