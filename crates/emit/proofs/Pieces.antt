-- Parts of the output, written one after the other. Assumes nothing.
use Prim.Native.Nat.{ℕ, ◌+◌, ◌-◌, ◌≤◌}
use native.Mathlib.Nat.{zero-add}
use native.Mathlib.Omega.{arith}
use mathlib.Core.Path.{◌≡◌, sym, ◌∙◌, ap}
use mathlib.Core.List.{◌++◌, append_assoc, append-nil}
use borrow.Rule.Slice.PartMut.{mid_of, put_mid, Post-is, mid_len}
use lib.ListN.{length, take, drop, drop_of_length-le}
use lib.Seq.{length-take-le}
use Rattle.model.specs.Bytes.{Bytes, splice}
use Rattle.emit.specs.Records.{Wrote}
use Rattle.emit.specs.RecordLaws.{wrote_both}

-- What was lent and came back stands in the output at the place of the part.
pub part_written : (a e : ℕ) (out ys : Bytes) → a ≤ e → e ≤ length out → length ys ≡ length (mid_of a (e - a) out) → put_mid a (e - a) out ys ≡ splice a ys out
unfolding splice
part_written a e out ys h l k =
    let z : a + length ys ≡ e = omega (arith, k, mid_len a e out l) in
    rw (Post-is a e out h, z) (sym (append_assoc (take a out) ys (drop e out)))

-- One part after another is one of both.
pub wrote_then : {old mid new x y : Bytes} {at m end : ℕ} → Wrote old at x m mid → Wrote mid m y end new → m ≤ length old → Wrote old at (x ++ y) end new
wrote_then {old} {x = x} {y = y} {at = at} p q h =
    wrote_both p q (omega (arith, p.ends))

-- A part that was lent and came back as these bytes.
pub wrote_part : (a e : ℕ) (out ys bytes : Bytes) → a ≤ e → e ≤ length out → length ys ≡ length (mid_of a (e - a) out) → ys ≡ bytes
    → Wrote out a bytes e (put_mid a (e - a) out ys)
wrote_part a e out ys bytes h l k q = record {
  ends = omega (arith, k, mid_len a e out l, ap length q);
  spliced = part_written a e out ys h l k ∙ ap (λ (b : Bytes). splice a b out) q;
}

-- The same, of the front.
pub wrote_front : (m : ℕ) (out ys bytes : Bytes) → m ≤ length out → length ys ≡ length (take m out) → ys ≡ bytes → Wrote out 0 bytes m (ys ++ drop m out)
unfolding splice
wrote_front m out ys bytes h k q =
    let l : length ys ≡ m = k ∙ length-take-le m out h in
    record { ends = omega (arith, l, ap length q); spliced = rw (← q, zero-add, l) }

-- All of the output at once. `last` is what it is when the writer is gone.
pub wrote_all : {out bytes new last : Bytes} {end : ℕ} → Wrote out 0 bytes end new → length out ≡ length bytes → last ≡ new → last ≡ bytes
unfolding splice
wrote_all {out} {bytes} w l e =
    let h : length out ≤ 0 + length bytes = omega (arith, l) in
    e ∙ w.spliced ∙ rw (drop_of_length-le out h) (append-nil bytes)
