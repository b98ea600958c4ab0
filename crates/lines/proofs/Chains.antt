-- One text written behind another. Assumes nothing.
use Prim.Native.Nat.{ℕ, ◌+◌}
use native.Mathlib.Omega.{arith}
use native.Mathlib.Nat.{add-zero, zero-add}
use mathlib.Core.Path.{◌≡◌, refl, sym, ◌∙◌}
use mathlib.Core.List.{[], ◌∷◌, ◌++◌, append-nil, append_assoc}
use lib.ListN.{length, take, drop, set, length-append, take-append-drop}
use lib.Seq.{take_at}
use Rattle.model.specs.Bytes.{Bytes, splice}
use Rattle.emit.specs.Records.{Wrote}
use Rattle.theory.specs.Splices.{length_splice, splice_then, splice_byte}
use Rattle.lines.specs.Texts.{Room, HoldsText}

-- No text, and a byte.
pub wrote_none : (old : Bytes) (at : ℕ) → Wrote old at [] at old
wrote_none old at = record { ends = sym (add-zero at); spliced = sym (unfold splice in rw (add-zero, append-nil) (take-append-drop at old)) }

pub wrote_byte : {old : Bytes} {at x : ℕ} → Room old at (x ∷ []) → Wrote old at (x ∷ []) (at + 1) (set old at x)
wrote_byte {old} {at} {x} room = record { ends = refl; spliced = splice_byte old at x (omega (arith, room.fits)) }

-- Room for two texts is room for the first, and then for the second; and writing both is writing the two as one.
module _ {old : Bytes} {at : ℕ} (r s : Bytes) (room : Room old at (r ++ s)) where
  pub room_first : Room old at r
  room_first = record { fits = omega (arith, room.fits, length-append r s) }

  module _ {m : ℕ} {mid : Bytes} (w : Wrote old at r m mid) where
    pub room_second : Room mid m s
    room_second = record { fits = rw (w.ends, w.spliced) (omega (arith, room.fits, length-append r s, length_splice old at r room_first.fits)) }

    pub wrote_both : {k : ℕ} {new : Bytes} → Wrote mid m s k new → Wrote old at (r ++ s) k new
    wrote_both v = record {
      ends = omega (arith, v.ends, w.ends, length-append r s);
      spliced = v.spliced ∙ rw (w.ends, w.spliced) (splice_then old at r room_first.fits s);
    }

-- A text written at the front.
pub holds : {old : Bytes} (text : Bytes) {end : ℕ} {new : Bytes} → Room old 0 text → Wrote old 0 text end new → HoldsText new end text
holds {old} text room w = rw (w.ends, w.spliced, zero-add) (record {
  front = take-front;
  within = omega
      (arith, room.fits, length_splice old 0 text room.fits);
})
  where
    take-front : take (length text) (splice 0 text old) ≡ text
    take-front = unfold splice in rw zero-add (take_at text (drop (length text) old) (length text) refl)
