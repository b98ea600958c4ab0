-- The rows of the table, written one after the other. Assumes nothing.
use Prim.Native.Nat.{ℕ, ◌+◌, ◌*◌, ◌≤◌, ◌<◌}
use native.Mathlib.Omega.{arith}
use mathlib.Core.Path.{◌≡◌, sym, ◌∙◌}
use mathlib.Core.Bool.{true, false}
use mathlib.Core.List.{List}
use lib.ListN.{length, drop}
use Rattle.model.specs.Lists.{concat_map}
use Rattle.model.specs.Bytes.{Bytes, splice}
use Rattle.model.specs.Oracle.{value_size}
use Rattle.algorithms.specs.Rounds.{distance_words}
use Rattle.theory.specs.ReadLaws.{length_concat_map}
use Rattle.arcs.specs.Arcs.{arcs_in}
use Rattle.bitset.specs.Bits.{is_in}
use Rattle.words.specs.Regions.{region_at, region, transit, times_in, search_words}
use Rattle.words.proofs.Windows.{in_front, region_later}
use Rattle.emit.specs.Members.{if_in}
use Rattle.emit.specs.Parts.{row_bytes}
use Rattle.emit.specs.PartLaws.{length_row}
use Rattle.emit.specs.Records.{Wrote}
use Rattle.emit.proofs.Writing.{Written, written_start}
use Rattle.emit.proofs.Turns.{members_from, members_all, wrote_out, wrote_in, fits_in}
use Rattle.passes.specs.Building.{members_in}
use Rattle.words.specs.Frames.{KeptFrom}
use Rattle.bodies.specs.Rows.{row_in}

-- ---- the row of v, where it is a transit node
module _ (edges : Bytes) (n v : ℕ) (work : List ℕ) (h : v < n) where
  abbrev row : Bytes
  row = row_in edges n (members_in n transit work) v

  length_its : length row ≡ value_size * length (members_in n transit work)
  unfolding row_in
  length_its = length_row (distance_words (arcs_in edges) n v) (members_in n transit work)

  inside : is_in (region n transit work) v ≡ is_in (drop (region_at n transit) work) v
  inside = in_front n (drop (region_at n transit) work) v h

  module _ (t at : ℕ) (out : Bytes) (e : t ≡ length (members_in n transit work)) where
    pub no_row : is_in (drop (region_at n transit) work) v ≡ false → Wrote out at (if_in (region n transit work) v row) at out
    no_row q = wrote_out (region n transit work) v out at row (inside ∙ q)

    module _ (q : is_in (drop (region_at n transit) work) v ≡ true) where
      pub row_fits : at + length (if_in (region n transit work) v row) ≤ length out → at + value_size * t ≤ length out
      row_fits l = omega (arith, fits_in (region n transit work) v at (length out) row (inside ∙ q) l, length_its, e)

      pub one_row : (work' : List ℕ) (new : Bytes) → times_in n work' ≡ distance_words (arcs_in edges) n v → KeptFrom (search_words n) work work'
          → new ≡ splice at (row_bytes (times_in n work') (members_in n transit work')) out
          → Wrote out at (if_in (region n transit work) v row) (at + value_size * t) new
      unfolding row_in
      one_row work' new times others s =
          wrote_in (region n transit work) v out at row (at + value_size * t) new (inside ∙ q) (omega (arith, length_its, e))
          (s ∙ rw (times, region_later n transit work work' (omega arith) others))

-- ---- all rows
module _ (edges : Bytes) (n : ℕ) (work : List ℕ) where
  abbrev pub rows : ℕ → Bytes
  rows = row_in edges n (members_in n transit work)

  pub rows_start : (t : ℕ) (out : Bytes) → t ≡ length (members_in n transit work) → length out ≡ value_size * t * t
      → Written (concat_map rows (members_in n transit work)) 0 out (members_from rows (region n transit work) n 0)
  rows_start t out e l =
      written_start (members_all rows (region n transit work) n)
      (l ∙ rw e (sym (length_concat_map rows (value_size * length (members_in n transit work)) (λ v. unfold row_in in
      length_row (distance_words (arcs_in edges) n v) (members_in n transit work)) (members_in n transit work))))
