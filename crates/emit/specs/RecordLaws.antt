-- Writing and comparing one record after the other. Assumes nothing.
use Rattle.std.specs.Prelude.{ℕ, ◌+◌, ◌≤◌, ◌≡◌, refl, Bool, true, false, ◌&&◌, cond, Some, None, length, drop, eqb}
use Rattle.std.proofs.Common.{arith, sym, ◌∙◌}
use mathlib.Core.Bool.{and_assoc, true≢false}
use mathlib.Core.List.{[], ◌∷◌, ◌++◌}
use Rattle.std.proofs.Math.ListN.{length-append, length-drop}
use Rattle.std.proofs.Math.Seq.{drop-drop}
use Rattle.model.specs.Lists.{equal}
use Rattle.model.specs.Bytes.{Bytes}
use Rattle.theory.specs.Splices.{splice_then}
use Rattle.theory.specs.Tests.{both}
use Rattle.emit.specs.Records.{Wrote, begins, compared}

-- ---- writing

pub wrote_both : {old mid new x y : Bytes} {at m end : ℕ} → Wrote old at x m mid → Wrote mid m y end new → at + length x ≤ length old
    → Wrote old at (x ++ y) end new
wrote_both {old} {x = x} {y = y} {at = at} p q h = record {
  ends = omega (arith, p.ends, q.ends, length-append x y);
  spliced = q.spliced ∙ rw (p.ends, p.spliced) (splice_then old at x h y);
}

-- ---- the bytes that b begins with

begins_append : (r s b : Bytes) → begins (r ++ s) b ≡ begins r b && begins s (drop (length r) b)
unfolding begins
begins_append [] s b = refl
begins_append (x ∷ r) s [] = refl
begins_append (x ∷ r) s (y ∷ b) = rw (begins_append r s b) (sym (and_assoc (eqb y x) (begins r b) (begins s (drop (length r) b))))

pub begins_equal : (r s b : Bytes) → equal b (r ++ s) ≡ begins r b && equal (drop (length r) b) s
unfolding begins equal
begins_equal [] s b = refl
begins_equal (x ∷ r) s [] = refl
begins_equal (x ∷ r) s (y ∷ b) = rw (begins_equal r s b) (sym (and_assoc (eqb y x) (begins r b) (equal (drop (length r) b) s)))

pub begins_long : (r b : Bytes) → begins r b ≡ true → length r ≤ length b
unfolding begins
begins_long [] b e = omega arith
begins_long (x ∷ r) [] e = absurd (true≢false (sym e))
begins_long (x ∷ r) (y ∷ b) e = omega (arith, begins_long r b (both {b = eqb y x} e).1)

-- ---- comparing

module _ (b : Bytes) (at : ℕ) (r : Bytes) where
  pub same→ : (m : ℕ) → compared b at r ≡ Some m → (begins r (drop at b) ≡ true) × (m ≡ at + length r)
  unfolding compared
  same→ m = pick (begins r (drop at b))
    where
      pick : (t : Bool) → cond t (Some (at + length r)) None ≡ Some m → (t ≡ true) × (m ≡ at + length r)
      pick true e = (refl, cc)
      pick false e = cc

  pub differs→ : compared b at r ≡ None → begins r (drop at b) ≡ false
  unfolding compared
  differs→ = pick (begins r (drop at b))
    where
      pick : (t : Bool) → cond t (Some (at + length r)) None ≡ None → t ≡ false
      pick true e = cc
      pick false e = refl

  -- The record ends inside b.
  pub same_within : (m : ℕ) → at ≤ length b → compared b at r ≡ Some m → m ≤ length b
  same_within m h e = let s = same→ m e in omega (arith, begins_long r (drop at b) s.0, length-drop at b)

  -- A record in two parts.
  module _ (s : Bytes) where
    joined : begins (r ++ s) (drop at b) ≡ begins r (drop at b) && begins s (drop (at + length r) b)
    joined = begins_append r s (drop at b) ∙ rw drop-drop

    pub then_same : (m : ℕ) → compared b at r ≡ Some m → compared b m s ≡ compared b at (r ++ s)
    unfolding compared
    then_same m e =
        let p = same→ m e in
        let q : m + length s ≡ at + length (r ++ s) = omega (arith, length-append r s) in
        rw (joined, p.0, ← q, p.1)

    pub then_different : compared b at r ≡ None → None ≡ compared b at (r ++ s)
    unfolding compared
    then_different e = rw (joined, differs→ e)

pub compared_nothing : (b : Bytes) (at : ℕ) → Some at ≡ compared b at []
unfolding compared begins
compared_nothing b at = let z : at + 0 ≡ at = omega arith in rw z
