-- Passing the table row by row. Assumes nothing.
use Prim.Native.Nat.{ℕ, ◌+◌, ◌≤◌, ◌<◌}
use mathlib.Core.Path.{◌≡◌, sym, ◌∙◌}
use mathlib.Core.Bool.{false}
use mathlib.Core.List.{List}
use lib.ListN.{length}
use lib.Dec.{eqb}
use Rattle.model.specs.Lists.{equal, concat_map}
use Rattle.model.specs.Bytes.{Bytes}
use Rattle.model.specs.Walk.{Arc}
use Rattle.algorithms.specs.Rounds.{distance_words}
use Rattle.words.specs.Regions.{region, transit, search_words}
use Rattle.emit.specs.Members.{if_in}
use Rattle.emit.specs.Parts.{row_bytes}
use Rattle.emit.specs.Records.{compared}
use Rattle.std.specs.Prelude.{Option, Some, None}
use Rattle.emit.proofs.Turns.{members_from, members_all, members_step, members_end}
use Rattle.emit.proofs.Comparing.{Left, left_start, left_different, left_next, left_end}
use Rattle.passes.specs.Building.{members_in}
use Rattle.words.specs.Frames.{KeptFrom}
use Rattle.auditor.proofs.Behind.{KeptSets, kept_same, kept_then, transit_behind}

module _ (arcs : List Arc) (n : ℕ) (b : Bytes) (w : List ℕ) where
  abbrev row_of : ℕ → Bytes
  row_of v = row_bytes (distance_words arcs n v) (members_in n transit w)

  abbrev pub whole : Bytes
  whole = concat_map row_of (members_in n transit w)

  -- The rows of the nodes below v are compared, up to position `at`; the words are x.
  pub record RowsLeft (v at : ℕ) (x : List ℕ) : Type 0 where
    pub kept : KeptSets n w x
    pub left : Left b whole at (members_from row_of (region n transit w) n v)

  pub rows_first : RowsLeft 0 0 w
  rows_first = record { kept = kept_same n w; left = left_start (members_all row_of (region n transit w) n) }

  module _ (v at : ℕ) (x : List ℕ) (p : RowsLeft v at x) (h : v < n) (c : Option ℕ)
      (e : c ≡ compared b at (if_in (region n transit x) v (row_bytes (distance_words arcs n v) (members_in n transit x)))) where
    told : c ≡ compared b at (if_in (region n transit w) v (row_of v))
    told = rw (← transit_behind n w x p.kept.behind) e

    pub rows_differ : c ≡ None → equal b whole ≡ false
    rows_differ q = left_different (members_step row_of (region n transit w) n v h) p.left (sym told ∙ q)

    pub rows_next : (m : ℕ) → c ≡ Some m → (y : List ℕ) → length y ≡ length x → KeptFrom (search_words n) x y → RowsLeft (v + 1) m y
    rows_next m q y s d = record {
      kept = kept_then n w x y p.kept s d;
      left = left_next (members_step row_of (region n transit w) n v h) p.left
          (sym told ∙ q);
    }

  pub rows_end : (v at : ℕ) (x : List ℕ) → RowsLeft v at x → n ≤ v → eqb at (length b) ≡ equal b whole
  rows_end v at x p h = left_end (members_end row_of (region n transit w) n v h) p.left
