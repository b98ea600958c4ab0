-- Bytes written over others at a position. Assumes nothing.
use Rattle.std.specs.Prelude.{ℕ, ◌+◌, ◌<◌, ◌≤◌, ◌≡◌, take, drop, set}
use Rattle.std.proofs.Common.{arith, zero-add, ◌∙◌, drop_at, length-take-le}
use Rattle.std.proofs.Math.Nat.{add_assoc}
use Rattle.std.proofs.Math.Path.{sym, ap}
use mathlib.Core.List.{[], ◌∷◌, ◌++◌, append_assoc}
use Rattle.std.proofs.Math.ListN.{length, length-append, length-drop}
use Rattle.std.proofs.Math.Seq.{take_at, drop-drop}
use Rattle.std.proofs.lemmas.List.Edits.{sets-eq}
use Rattle.model.specs.Bytes.{Bytes, splice}

-- At the front.
pub splice_front : (xs out : Bytes) → splice 0 xs out ≡ xs ++ drop (length xs) out
unfolding splice
splice_front xs out = rw zero-add

module _ (old : Bytes) (at : ℕ) (r : Bytes) (h : at + length r ≤ length old) where
  -- What stands before it and in it.
  length_front : length (take at old ++ r) ≡ at + length r
  length_front = length-append (take at old) r ∙ rw (length-take-le at old (omega arith))

  pub take_splice : take (at + length r) (splice at r old) ≡ take at old ++ r
  unfolding splice
  take_splice = take_at (take at old ++ r) (drop (at + length r) old) (at + length r) length_front

  pub drop_splice : (n : ℕ) → drop (at + length r + n) (splice at r old) ≡ drop (at + length r + n) old
  unfolding splice
  drop_splice n =
      sym (drop-drop n (at + length r) (splice at r old)) ∙
      ap (drop n) (drop_at (take at old ++ r) (drop (at + length r) old) (at + length r) length_front) ∙
      drop-drop n (at + length r) old

  pub length_splice : length (splice at r old) ≡ length old
  unfolding splice
  length_splice = omega (arith, length-append (take at old ++ r) (drop (at + length r) old), length_front, length-drop (at + length r) old)

  -- One after the other is both at once.
  pub splice_then : (s : Bytes) → splice (at + length r) s (splice at r old) ≡ splice at (r ++ s) old
  splice_then s = unfold splice in rw (take_splice, drop_splice (length s), length-append r s, add_assoc, append_assoc (take at old) r s)

-- A byte stored.
pub splice_byte : (old : Bytes) (at x : ℕ) → at < length old → set old at x ≡ splice at (x ∷ []) old
unfolding splice
splice_byte old at x h = sets-eq (x ∷ []) old at (omega arith)
