-- Comparing a row with the bytes at a position of the table. Assumes nothing.
use Prim.Native.Nat.{ℕ, ◌+◌, ◌-◌, ◌*◌, ◌<◌}
use native.Mathlib.Omega.{arith}
use mathlib.Core.Path.{◌≡◌, refl, sym, ◌∙◌, ap}
use mathlib.Core.Bool.{Bool, true, false, ◌&&◌}
use mathlib.Core.List.{List, [], ◌∷◌}
use borrow.Rule.Slice.PartMut.{mid_of}
use lib.ListN.{length, take, drop, length-take, length-drop}
use lib.Dec.{eqb}
use Rattle.model.specs.Lists.{equal}
use Rattle.model.specs.Bytes.{Bytes}
use Rattle.model.specs.Oracle.{value_size}
use Rattle.theory.specs.Tests.{refuted}
use Rattle.bitset.specs.Bits.{is_in}
use Rattle.words.specs.Regions.{region_at, region, transit}
use Rattle.words.proofs.Windows.{in_front}
use Rattle.emit.specs.Members.{if_in}
use Rattle.emit.specs.Parts.{row_bytes}
use Rattle.emit.specs.PartLaws.{length_row}
use Rattle.emit.specs.Records.{begins, compared}
use Rattle.std.specs.Prelude.{Some, None}
use Rattle.emit.proofs.Turns.{compared_out, compared_in}
use Rattle.theory.specs.Audits.{equal→}

begins_front : (r l : Bytes) → equal (take (length r) l) r ≡ begins r l
unfolding begins equal
begins_front [] l = refl
begins_front (x ∷ r) [] = refl
begins_front (x ∷ r) (y ∷ l) = ap (λ (b : Bool). eqb y x && b) (begins_front r l)

-- A row of this size at a position of the table.
module _ (b : Bytes) (at size : ℕ) (times l : List ℕ) (e : size ≡ value_size * length l) where
  abbrev row : Bytes
  row = row_bytes times l

  its_size : length row ≡ size
  its_size = length_row times l ∙ sym e

  part : mid_of at (at + size - at) b ≡ take (length row) (drop at b)
  part = let q : at + size - at ≡ length row = omega (arith, its_size) in ap (λ (k : ℕ). take k (drop at b)) q

  pub row_short : length b - at < size → None ≡ compared b at row
  unfolding compared
  row_short h =
      let long : begins row (drop at b) ≡ false = sym (begins_front row (drop at b))
      ∙ refuted (λ q. omega (arith, ap length (equal→ (take (length row) (drop at b)) row q), length-take (length row) (drop at b), length-drop at b, its_size))
      in
      rw long

  pub row_same : equal (mid_of at (at + size - at) b) row ≡ true → Some (at + size) ≡ compared b at row
  unfolding compared
  row_same q = rw (← its_size, ← begins_front row (drop at b), ← part, q)

  pub row_other : equal (mid_of at (at + size - at) b) row ≡ false → None ≡ compared b at row
  unfolding compared
  row_other q = rw (← begins_front row (drop at b), ← part, q)

-- The row of v, where region TRANSIT has v.
module _ (n v : ℕ) (w : List ℕ) (h : v < n) (b : Bytes) (at : ℕ) (row : Bytes) where
  pub row_out : is_in (drop (region_at n transit) w) v ≡ false → Some at ≡ compared b at (if_in (region n transit w) v row)
  row_out q = compared_out (region n transit w) v b at row (in_front n (drop (region_at n transit) w) v h ∙ q)

  pub row_in : is_in (drop (region_at n transit) w) v ≡ true → compared b at row ≡ compared b at (if_in (region n transit w) v row)
  row_in q = compared_in (region n transit w) v b at row (in_front n (drop (region_at n transit) w) v h ∙ q)
