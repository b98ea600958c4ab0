-- The lines about an edge are those of a part of the lines, where each of them is in that part. Assumes nothing.
use Prim.Native.Nat.{ℕ, zero, suc, ◌+◌, ◌-◌, ◌≤◌, ◌<◌}
use native.Mathlib.Omega.{arith}
use native.Mathlib.Decide.{dec_le}
use mathlib.Core.Path.{◌≡◌, sym, ◌∙◌, ap}
use mathlib.Core.Bool.{cond}
use mathlib.Core.List.{List, [], ◌∷◌, map}
use borrow.Author.Tests.{ne_eqb}
use Rattle.model.specs.Lists.{range, filter}
use Rattle.model.specs.Bytes.{Bytes}
use Rattle.sheet.specs.Sheet.{Line, line, line_count, lines_in, is_about, about, holds}
use Rattle.sheet.specs.Codes.{lines_from}

module _ (b : Bytes) (i : ℕ) where
  -- The lines about the edge, of the m lines from j on.
  abbrev there : ℕ → ℕ → List Line
  there j m = about (map (line b) (range j m)) i

  step_no : (j m : ℕ) → ((line b j).edge ≡ i → ⊥) → there j (suc m) ≡ there (suc j) m
  unfolding about range filter is_about
  step_no j m h = rw (ne_eqb (line b j).edge i h)

  -- Lines before and behind that are not about it.
  skip : (j d m : ℕ) → ((k : ℕ) → j ≤ k → k < j + d → (line b k).edge ≡ i → ⊥) → there j (d + m) ≡ there (j + d) m
  skip j zero m h = let e : j + 0 ≡ j = omega arith in let e' : 0 + m ≡ m = omega arith in rw (e, e')
  skip j (suc d) m h =
      let e : j + suc d ≡ suc j + d = omega arith in
      let e' : suc d + m ≡ suc (d + m) = omega arith in
      rw (e, e') (step_no j (d + m) (h j (omega arith) (omega arith)) ∙ skip (suc j) d m (λ k p q. h k (omega arith) (omega arith)))

  none : (j d : ℕ) → ((k : ℕ) → j ≤ k → k < j + d → (line b k).edge ≡ i → ⊥) → there j d ≡ []
  unfolding about range filter
  none j d h = let e : d + 0 ≡ d = omega arith in sym (ap (there j) e) ∙ skip j d 0 h

  cut : (j m d : ℕ) → ((k : ℕ) → j + m ≤ k → k < j + m + d → (line b k).edge ≡ i → ⊥) → there j (m + d) ≡ there j m
  unfolding about range filter
  cut j zero d h = let e : 0 + d ≡ d = omega arith in rw e (none j d (λ k p q. h k (omega arith) (omega arith)))
  cut j (suc m) d h =
      let e : suc m + d ≡ suc (m + d) = omega arith in
      rw e (ap (λ (l : List Line). cond (is_about i (line b j)) (line b j ∷ l) l) (cut (suc j) m d (λ k p q. h k (omega arith) (omega arith))))

module _ (b : Bytes) (i first end : ℕ) (h : end ≤ line_count b)
    (each : (k : ℕ) → k < line_count b → (line b k).edge ≡ i → (first ≤ k) × (k < end)) where
  about_part : about (lines_in b) i ≡ about (lines_from b first end) i
  unfolding lines_in lines_from
  about_part = pick (dec_le first end)
    where
      pick : Dec (first ≤ end) → there b i 0 (line_count b) ≡ there b i first (end - first)
      pick (yes l) =
          let e : line_count b ≡ first + ((end - first) + (line_count b - end)) = omega arith in
          let z : 0 + first ≡ first = omega arith in
          ap (there b i 0) e
          ∙ (skip b i 0 first ((end - first) + (line_count b - end)) (λ k p q r. omega (arith, each k (omega arith) r))
          ∙ (ap (λ (j : ℕ). there b i j ((end - first) + (line_count b - end))) z
          ∙ cut b i first (end - first) (line_count b - end) (λ k p q r. omega (arith, each k (omega arith) r))))
      pick (no l) =
          none b i 0 (line_count b) (λ k p q r. omega (arith, each k (omega arith) r))
          ∙ sym (none b i first (end - first) (λ k p q r. omega arith))

  -- So what holds is what holds among the lines of the part.
  pub holds_part : holds (lines_in b) i ≡ holds (lines_from b first end) i
  unfolding holds
  holds_part = rw about_part
