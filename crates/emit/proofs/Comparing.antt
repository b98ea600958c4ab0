-- Comparing bytes record by record, in terms of what is left from a position on. Assumes nothing.
use Prim.Native.Nat.{ℕ, ◌+◌, ◌-◌, ◌≤◌}
use native.Mathlib.Omega.{arith}
use mathlib.Core.Path.{◌≡◌, refl, sym, ◌∙◌}
use mathlib.Core.Bool.{Bool, true, false, ◌&&◌}
use mathlib.Core.List.{[], ◌∷◌, append-nil}
use lib.ListN.{length, take, drop, length-drop}
use lib.Seq.{drop-drop, take_all}
use lib.Pointwise.{pointwise}
use native.Mathlib.Decide.{ℕ_discrete}
use lib.Dec.{eqb}
use borrow.Author.Tests.{eq-eqb, ne_eqb}
use Rattle.std.specs.Prelude.{Some, None}
use Rattle.std.specs.List.{starts_with}
use Rattle.model.specs.Lists.{equal}
use Rattle.model.specs.Bytes.{Bytes}
use Rattle.emit.specs.Records.{begins, compared}
use Rattle.emit.specs.RecordLaws.{begins_equal, same→, differs→, same_within}
use Rattle.emit.specs.Sinks.{Matched}
use Rattle.emit.proofs.Writing.{Then}

-- b is compared with `whole` up to `at`, and from there on with what is left of it.
pub record Left (b whole : Bytes) (at : ℕ) (rest : Bytes) : Type 0 where
  pub within : at ≤ length b
  pub same : equal b whole ≡ equal (drop at b) rest

pub left_start : {b whole rest : Bytes} → whole ≡ rest → Left b whole 0 rest
left_start e = record { within = omega arith; same = rw e }

module _ {b whole rest r more : Bytes} {at : ℕ} (t : Then rest r more) (l : Left b whole at rest) where
  left_by : equal b whole ≡ begins r (drop at b) && equal (drop (at + length r) b) more
  left_by = l.same ∙ rw t.is (begins_equal r more (drop at b) ∙ rw drop-drop)

  pub left_different : compared b at r ≡ None → equal b whole ≡ false
  left_different e = left_by ∙ rw (differs→ b at r e)

  pub left_next : {m : ℕ} → compared b at r ≡ Some m → Left b whole m more
  left_next {m} e =
      let s = same→ b at r m e in
      record { within = same_within b at r m l.within e; same = left_by ∙ rw (s.0, s.1) }

-- Nothing is left: the bytes are the same where b ends.
pub left_end : {b whole rest : Bytes} {at : ℕ} → rest ≡ [] → Left b whole at rest → eqb at (length b) ≡ equal b whole
left_end {b} {whole} {rest} {at} r l = sym (l.same ∙ rw r (pick (drop at b) (length-drop at b)))
  where
    pick : (d : Bytes) → length d ≡ length b - at → equal d [] ≡ eqb at (length b)
    pick [] e = unfold equal in sym (eq-eqb at (length b) (omega (arith, l.within)))
    pick (x ∷ d) e = unfold equal in sym (ne_eqb at (length b) (λ q. omega arith))

-- All was compared at once.
module _ {b whole after : Bytes} {r : Bool} {end : ℕ} (m : Matched b 0 whole r end after) where
  pub matched_all : r ≡ true → eqb end (length b) ≡ equal b whole
  matched_all e = left_end refl (left_next (record { is = sym (append-nil whole) }) (left_start refl) (sym (rw e at m.tells)))

  pub matched_none : r ≡ false → r ≡ equal b whole
  matched_none e = e ∙ sym (left_different (record { is = sym (append-nil whole) }) (left_start refl) (sym (rw e at m.tells)))

-- ---- one record, by the library's comparison

turned : (x y : ℕ) → eqb x y ≡ eqb y x
turned x y = pick (ℕ_discrete x y)
  where
    pick : Dec (x ≡ y) → eqb x y ≡ eqb y x
    pick (yes e) = eq-eqb x y e ∙ sym (eq-eqb y x (sym e))
    pick (no n) = ne_eqb x y n ∙ sym (ne_eqb y x (λ e. n (sym e)))

begins_pointwise : (r b : Bytes) → pointwise eqb r (take (length r) b) ≡ begins r b
unfolding begins
begins_pointwise [] b = refl
begins_pointwise (x ∷ r) [] = refl
begins_pointwise (x ∷ r) (y ∷ b) = rw (turned x y, begins_pointwise r b)

-- The library has compared with what stands from `at` on.
module _ (b : Bytes) (at : ℕ) (r : Bytes) (found : Bool) (e : found ≡ starts_with eqb (take (length b - at) (drop at b)) r) where
  begins_there : found ≡ begins r (drop at b)
  begins_there =
      let l : length (drop at b) ≤ length b - at = omega (arith, length-drop at b) in
      rw (take_all (length b - at) (drop at b) l) at e ∙ begins_pointwise r (drop at b)

  pub stands_there : found ≡ true → Some (at + length r) ≡ compared b at r
  unfolding compared
  stands_there h = rw (sym begins_there ∙ h)

  pub stands_not : found ≡ false → None ≡ compared b at r
  unfolding compared
  stands_not h = rw (sym begins_there ∙ h)
