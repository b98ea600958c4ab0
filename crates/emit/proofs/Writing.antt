-- Writing a part record by record, in terms of what is left to write from a position on. Assumes nothing.
use Prim.Native.Nat.{ℕ, ◌+◌, ◌<◌, ◌≤◌}
use native.Mathlib.Omega.{arith}
use native.Mathlib.Numerals.{add-one}
use mathlib.Core.Path.{◌≡◌, refl, sym, ◌∙◌, ap}
use mathlib.Core.List.{[], ◌∷◌, ◌++◌, append-nil}
use lib.ListN.{length, get_or, drop, set, length-append, take-append-drop, drop_of_length-le}
use lib.Seq.{drop-cons}
use Rattle.model.specs.Bytes.{Bytes, splice}
use Rattle.theory.specs.Splices.{length_splice, splice_byte, splice_then}
use Rattle.emit.specs.Records.{Wrote}

-- ---- all records of a part

-- `rest` is r and then `more`.
pub record Then (rest r more : Bytes) : Type 0 where
  pub is : rest ≡ r ++ more

-- `out` becomes `whole` where `rest`, for which the room is there, is written from `at` on.
pub record Written (whole : Bytes) (at : ℕ) (out rest : Bytes) : Type 0 where
  pub room : at + length rest ≤ length out
  pub same : splice at rest out ≡ whole

pub written_start : {whole out rest : Bytes} → whole ≡ rest → length out ≡ length whole → Written whole 0 out rest
unfolding splice
written_start {whole} {out} {rest} e l =
    let k : length out ≤ 0 + length rest = omega (arith, l, ap length e) in
    record { room = omega (arith, l, ap length e); same = rw (drop_of_length-le out k) (append-nil rest ∙ sym e) }

module _ {whole out rest r more : Bytes} {at : ℕ} (t : Then rest r more) (w : Written whole at out rest) where
  pub written_fits : at + length r ≤ length out
  written_fits = omega (arith, w.room, ap length t.is, length-append r more)

  pub written_next : {m : ℕ} {new : Bytes} → Wrote out at r m new → Written whole m new more
  written_next {m} {new} o =
      rw (o.ends, o.spliced)
      (record {
        room = omega (arith, length_splice out at r written_fits, w.room, ap length t.is, length-append r more);
        same = rw (splice_then out at r written_fits more, ← t.is) w.same;
      })

-- One byte of `from` after another, from `at` on.
pub byte_next : (from old : Bytes) (i at : ℕ) → i < length from → at + i < length old → Then (drop i from) (get_or from i 0 ∷ []) (drop (i + 1) from)
    × Wrote old (at + i) (get_or from i 0 ∷ []) (at + (i + 1)) (set old (at + i) (get_or from i 0))
byte_next from old i at h k = (
  record { is = rw add-one (drop-cons from i 0 h) },
  record { ends = omega arith; spliced = splice_byte old (at + i) (get_or from i 0) k },
)

pub written_end : {whole out rest : Bytes} {at : ℕ} → rest ≡ [] → Written whole at out rest → out ≡ whole
unfolding splice
written_end {out = out} {at = at} e w =
    let z : at + 0 ≡ at = omega arith in
    let s : splice at [] out ≡ out = rw (z, append-nil, take-append-drop) in
    sym s ∙ rw e at w.same

-- The same for `bytes` over `old` from `start` on.
pub record WrittenFrom (old : Bytes) (start : ℕ) (bytes : Bytes) (at : ℕ) (out rest : Bytes) : Type 0 where
  pub ends : at + length rest ≡ start + length bytes
  pub written : Written (splice start bytes old) at out rest

module _ {old bytes : Bytes} {start : ℕ} where
  pub from_start : {rest : Bytes} → bytes ≡ rest → start + length bytes ≤ length old → WrittenFrom old start bytes start old rest
  from_start e h = rw (← e) (record { ends = refl; written = record { room = h; same = refl } })

  module _ {out rest r more : Bytes} {at : ℕ} (t : Then rest r more) (w : WrittenFrom old start bytes at out rest) where
    pub from_next : {m : ℕ} {new : Bytes} → Wrote out at r m new → WrittenFrom old start bytes m new more
    from_next o = record {
      ends = omega (arith, o.ends, w.ends, ap length t.is, length-append r more);
      written = written_next t w.written o;
    }

  pub from_end : {out rest : Bytes} {at : ℕ} → rest ≡ [] → WrittenFrom old start bytes at out rest → Wrote old start bytes at out
  from_end e w = record { ends = omega (arith, w.ends, ap length e); spliced = written_end e w.written }
