-- Rule 2 is what reading step by step finds. Assumes nothing.
use Prim.Native.Nat.{ℕ, zero, suc, ◌+◌, ◌<◌, ◌≤◌}
use native.Mathlib.Omega.{arith}
use mathlib.Core.Path.{◌≡◌, refl, sym}
use mathlib.Core.Bool.{Bool, true, false, not, ◌&&◌, and-false}
use mathlib.Core.List.{map}
use lib.ListN.{length}
use lib.Dec.{eqb}
use borrow.Author.Tests.{eq-eqb, ne_eqb}
use Rattle.model.specs.Lists.{all, gapless}
use Rattle.model.specs.Bytes.{Bytes}
use Rattle.model.specs.Contents.{body_part, of_its_kind, bodies_broken}
use Rattle.theory.specs.RangeLaws.{rest, rest_all, all_step, all_end, gapless_step, gapless_end}
use Rattle.contents.specs.Reading.{no_contents, follows, extended, read_next, read_steps, contents_of}
use Rattle.contents.specs.declared.Contents.{Contents}
use Rattle.contents.proofs.Steps.{goes, stays, stopped}

-- The entries that are left, up to entry n, keep rule 2.
abbrev joined : Bytes → ℕ → Contents → Bool
joined f n c = all (of_its_kind f) (rest c.count n) && gapless c.end (map (body_part f) (rest c.count n)) (length f)

-- All n entries were read, and the bodies read end the file.
abbrev pub finished : Bytes → ℕ → Contents → Bool
finished f n c = eqb c.count n && eqb c.end (length f)

swap : (p a q b : Bool) → (p && a) && (q && b) ≡ (p && q) && (a && b)
swap true a true b = refl
swap true a false b = and-false a
swap false a q b = refl

module _ (f : Bytes) (n : ℕ) where
  joined_step : (c : Contents) → c.count < n → joined f n c ≡ follows f c && joined f n (extended f c)
  unfolding follows extended body_part
  joined_step c h = rw (all_step (of_its_kind f) c.count n h, gapless_step (body_part f) c.end c.count n (length f) h)
      (swap (of_its_kind f c.count) _ _ _)

  joined_end : (c : Contents) → c.count ≡ n → joined f n c ≡ finished f n c
  joined_end c e =
      let h : n ≤ c.count = omega arith in
      rw (all_end (of_its_kind f) c.count n h, gapless_end (body_part f) c.end c.count n (length f) h, eq-eqb c.count n e)

  finds : (m : ℕ) (c : Contents) → c.count + m ≡ n → finished f n (read_steps m f c) ≡ joined f n c
  unfolding read_steps
  finds zero c e = sym (joined_end c (omega arith))
  finds (suc m) c e = step (follows f c) refl (finds m (extended f c) (unfold extended in omega arith))
    where
      more : c.count < n
      more = omega arith

      step : (b : Bool) → follows f c ≡ b → finished f n (read_steps m f (extended f c)) ≡ joined f n (extended f c)
          → finished f n (read_steps m f (read_next f c)) ≡ joined f n c
      step true h r = rw (joined_step c more, h, goes f c h) r
      step false h r = rw (joined_step c more, h, stays f c h, stopped f m c h, ne_eqb c.count n (λ q. omega (arith, more)))

module _ (f : Bytes) (n : ℕ) (c : Contents) (read : c ≡ contents_of n f) where
  pub rule_2 : bodies_broken n f ≡ not (finished f n c)
  unfolding bodies_broken contents_of no_contents
  rule_2 = rw (read, finds f n n (no_contents n) (omega arith), ← rest_all n)

  pub by_count : (c.count ≡ n → ⊥) → true ≡ bodies_broken n f
  by_count ne = rw (rule_2, ne_eqb c.count n ne)

  pub by_end : c.count ≡ n → not (eqb c.end (length f)) ≡ bodies_broken n f
  by_end e = rw (rule_2, eq-eqb c.count n e)
