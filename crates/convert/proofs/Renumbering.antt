-- Lines with new numbers, and the sheet of them. Assumes nothing.
use Prim.Native.Nat.{ℕ, ◌+◌, ◌-◌, ◌*◌, ◌≤◌}
use native.Mathlib.Omega.{arith}
use mathlib.Core.Path.{◌≡◌, refl, sym, ◌∙◌, ap, subst}
use mathlib.Core.Bool.{true, false}
use mathlib.Core.List.{List, [], ◌∷◌, ◌++◌}
use lib.ListN.{length, get_or, set, length-append}
use lib.Seq.{sets-eq}
use Rattle.model.specs.Lists.{rising}
use Rattle.model.specs.Bytes.{Bytes, word32, bytes16, bytes32, splice, words16}
use Rattle.model.specs.Contents.{entry_at, entries}
use Rattle.theory.specs.Splices.{splice_byte, splice_then}
use Rattle.sheet.specs.Sheet.{Line, line, line_size, line_bytes, sheet_file, sheet_of}
use Rattle.emit.specs.Records.{Wrote}
use Rattle.emit.proofs.Writing.{Then}
use Rattle.emit.proofs.Pieces.{wrote_then}
use Rattle.convert.specs.Old.{is_open}
use Rattle.convert.specs.Convert.{new_number, is_kept, renumbered}
use Rattle.convert.specs.Parts.{head_size, line_of, line_left, lines_left, sheet_head, sheet_left}
use Rattle.convert.proofs.Counts.{below, both_below}
use Rattle.convert.proofs.Leaving.{wrote_none, wrote_some, fits_some, length_line}

-- ---- one line
pub line_put : (old mid new : Bytes) (at status edge added : ℕ) → at + line_size ≤ length old → mid ≡ splice (at + 1) (bytes16 edge) (set old at status)
    → new ≡ splice (at + 3) (bytes32 added) mid → Wrote old at (line_bytes (line_of status edge added)) (at + line_size) new
unfolding line_bytes bytes16 bytes32
line_put old mid new at status edge added h p q = record {
  ends = refl;
  spliced = q ∙ rw (p, splice_byte old at status (omega arith), splice_then old at (status ∷ []) (omega arith) (bytes16 edge))
      (splice_then old at (status ∷ bytes16 edge) (omega arith) (bytes32 added));
}

pub below_most : (closed : List ℕ) → rising closed ≡ true → (i : ℕ) → below closed i ≤ i
below_most closed r i = omega (arith, both_below closed r i)

module _ (closed : List ℕ) (b : Bytes) (k i : ℕ) (e : i ≡ (line b k).edge) where
  kept_as : is_kept closed (line b k) ≡ is_open closed i
  unfolding is_kept
  kept_as = rw e

  module _ (old : Bytes) (at : ℕ) where
    pub line_none : is_open closed i ≡ false → Wrote old at (line_left closed (line b k)) at old
    unfolding line_left
    line_none o = wrote_none (is_kept closed (line b k)) old at (line_bytes (renumbered closed (line b k))) (kept_as ∙ o)

    module _ (o : is_open closed i ≡ true) where
      pub line_fits : at + length (line_left closed (line b k)) ≤ length old → at + line_size ≤ length old
      unfolding line_left
      line_fits h =
          rw (length_line closed (line b k)) at (fits_some (is_kept closed (line b k)) old at (line_bytes (renumbered closed (line b k))) (kept_as ∙ o) h)

      pub line_wrote : (r added : ℕ) → r ≡ below closed i → added ≡ word32 b (line_size * k + 3) → {m : ℕ} {new : Bytes}
          → Wrote old at (line_bytes (line_of (get_or b (line_size * k) 0) (i - r) added)) m new → Wrote old at (line_left closed (line b k)) m new
      unfolding line_left
      line_wrote r added p q {m} {new} w =
          wrote_some (is_kept closed (line b k)) old at (line_bytes (renumbered closed (line b k))) (kept_as ∙ o)
          (subst (λ (l : Line). Wrote old at (line_bytes l) m new) same w)
        where
          same : line_of (get_or b (line_size * k) 0) (i - r) added ≡ renumbered closed (line b k)
          same = unfold renumbered line new_number in rw (p, q, e)

  -- How long it is.
  pub line_long : is_open closed i ≡ true → line_size ≡ length (line_left closed (line b k))
  unfolding line_left
  line_long o = rw (kept_as ∙ o) (sym (length_line closed (line b k)))

  pub line_empty : is_open closed i ≡ false → 0 ≡ length (line_left closed (line b k))
  unfolding line_left
  line_empty o = rw (kept_as ∙ o)

-- ---- the sheet
pub head_put : (old mid new : Bytes) (size : ℕ) → head_size ≤ length old → mid ≡ splice 3 (bytes32 head_size) (set (set (set old 0 1) 1 1) 2 8)
    → new ≡ splice 7 (bytes32 size) mid → Wrote old 0 (sheet_head size) head_size new
unfolding sheet_head bytes32 bytes16
head_put old mid new size h p q =
    let three : set (set (set old 0 1) 1 1) 2 8 ≡ splice 0 (1 ∷ 1 ∷ 8 ∷ []) old = unfold splice in sets-eq (1 ∷ 1 ∷ 8 ∷ []) old 0 (omega arith) in
    record {
      ends = refl;
      spliced = q ∙ rw (p, three, splice_then old 0 (1 ∷ 1 ∷ 8 ∷ []) (omega arith) (bytes32 head_size))
          (splice_then old 0 (1 ∷ 1 ∷ 8 ∷ bytes32 head_size) (omega arith) (bytes32 size));
    }

module _ (closed b : Bytes) where
  abbrev body : Bytes
  body = lines_left (words16 closed) b

  sheet_parts : sheet_left closed b ≡ sheet_head (length body) ++ body
  unfolding sheet_left sheet_of sheet_file sheet_head lines_left entries entry_at bytes32 bytes16
  sheet_parts = refl

  pub length_sheet : length (sheet_left closed b) ≡ head_size + length body
  length_sheet = rw sheet_parts (unfold sheet_head bytes32 bytes16 in omega arith)

  pub sheet_written : (left : ℕ) → left ≡ length body → (old : Bytes) → head_size ≤ length old → {mid new : Bytes} {end : ℕ}
      → Wrote old 0 (sheet_head left) head_size mid → Wrote mid head_size body end new → new ≡ splice 0 (sheet_left closed b) old
  sheet_written left e old h p q = rw sheet_parts (wrote_then (rw e at p) q h).spliced

-- ---- how long the lines are: what is left to count
pub counted_next : (size all n : ℕ) {rest r more : Bytes} → Then rest r more → size + length rest ≡ all → n ≡ length r → (size + n) + length more ≡ all
counted_next size all n {r = r} {more = more} t e q = omega (arith, ap length t.is, length-append r more)
