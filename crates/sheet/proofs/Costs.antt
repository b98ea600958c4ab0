-- The cost of an edge under the lines of a sheet. Assumes nothing.
use Prim.Native.Nat.{ℕ, ◌+◌, ◌*◌, ◌/◌, ◌%◌, ◌<◌, ◌≤◌}
use Rattle.std.specs.Prelude.{min}
use native.Mathlib.Omega.{arith}
use native.Mathlib.Nat.{add-zero, zero-mul, mul-le-mul}
use mathlib.Core.Path.{◌≡◌, sym, ◌∙◌, ap, subst}
use mathlib.Core.List.{List, Memᴰ}
use Rattle.model.specs.Lists.{up_to}
use Rattle.model.specs.Bytes.{Bytes}
use Rattle.model.specs.Pair.{key}
use Rattle.model.specs.Network.{Edge}
use Rattle.model.specs.Oracle.{no_walk}
use Rattle.theory.specs.Members.{map→, range→}
use Rattle.sheet.specs.Sheet.{Line, Effect, Effect.delayed, line, line_count, lines_in, holds}
use Rattle.sheet.specs.Codes.{effect_in, lines_from}
use Rattle.sheet.specs.declared.lines.Effect.TheVariants.{Shut, Delayed}
use Rattle.sheet.specs.Spans.{block_lines, span_of, span_end, InSpan, Spanned, cost_left}
use Rattle.sheet.proofs.Abouts.{holds_part}
use Rattle.sheet.proofs.Lasts.{none_holds}

-- ---- the lines of a span

-- Every line about edge i is in the span x.
abbrev pub AllIn : Bytes → ℕ → ℕ → Type 0
AllIn b x i = (k : ℕ) → k < line_count b → (line b k).edge ≡ i → InSpan (block_lines b) x k

pub spanned_in : (b : Bytes) (spans : List ℕ) (x i : ℕ) → Spanned b spans → x ≡ span_of spans i → AllIn b x i
spanned_in b spans x i t e k h q =
    subst (λ (y : ℕ). InSpan (block_lines b) y k) (sym e) (subst (λ (j : ℕ). InSpan (block_lines b) (span_of spans j) k) q (t.each k h))

-- A product of the code: a number of blocks times their size.
pub span_fits : (b : Bytes) (m size q : ℕ) → m ≡ line_count b → size ≡ block_lines b → q < 65536 → q * size ≤ m + 65535
unfolding block_lines
span_fits b m size q e p h = let z = mul-le-mul {n₁ = q} {m₁ = size} {n₂ = 65535} {m₂ = size} (omega arith) (omega arith) in omega arith

module _ (b : Bytes) (m size x i : ℕ) (e : m ≡ line_count b) (p : size ≡ block_lines b) (all : AllIn b x i) where
  pub cut_span : (end : ℕ) → end ≡ min (x % 65536 * size) m → holds (lines_in b) i ≡ holds (lines_from b (x / 65536 * size) end) i
  cut_span end h =
      holds_part b i (x / 65536 * size) end (omega arith)
      (λ k l q. let z : InSpan size x k = rw p (all k l q) in (z.0, omega (arith, z.1)))

-- A word 0: no line is about the edge.
pub nothing_held : (b : Bytes) (x i : ℕ) → x ≡ 0 → AllIn b x i → holds (lines_in b) i ≡ delayed 0
unfolding lines_in
nothing_held b x i e all = none_holds (λ l m q. none l q (map→ (line b) (up_to (line_count b)) m))
  where
    empty : (k : ℕ) → k < span_end (block_lines b) x → ⊥
    empty k h = let z : x % 65536 ≡ 0 = omega arith in omega (arith, (rw z at h), zero-mul (block_lines b))

    none : (l : Line) → l.edge ≡ i → (k : ℕ) × Memᴰ k (up_to (line_count b)) × (l ≡ line b k) → ⊥
    none l q (k, m, p) = empty k (all k (omega (arith, range→ 0 (line_count b) k m)) (sym (ap (λ (l : Line). l.edge) p) ∙ q)).1

-- ---- the edge as it is left

pub as_was : (f : Effect) (k : ℕ) (e : Edge) → f ≡ delayed 0 → k ≡ key e.seconds 1 → k ≡ cost_left f e
unfolding cost_left
as_was f k e z p = rw (z, add-zero, p)

module _ (f : Effect) (e : Edge) where
  pub by_shut : effect_in Shut ≡ f → no_walk ≡ cost_left f e
  unfolding effect_in cost_left
  by_shut p = rw (← p)

  pub by_delay : (x : ℕ) → effect_in (Delayed x) ≡ f → (k : ℕ) → k ≡ key e.seconds 1 → k + x * 65536 ≡ cost_left f e
  unfolding effect_in cost_left
  by_delay x p k q = rw (← p) (omega arith)
