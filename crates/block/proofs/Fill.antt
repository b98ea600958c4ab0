-- A block that is filled row by row. Assumes nothing.
use Prim.Native.Nat.{ℕ, ◌+◌, ◌<◌}
use native.Mathlib.Omega.{arith}
use mathlib.Core.Path.{◌≡◌, refl, sym, ◌∙◌, ap}
use mathlib.Core.List.{List, []}
use lib.ListN.{length, get_or, take, set, replicate}
use lib.Seq.{set-set, set-get_or, get_or-set_same, get_or-take, length-take-le}
use Rattle.block.specs.Block.{max_names, twelve, row_by, unused_row, block_by}
use Rattle.block.specs.Twelve.{used_at, unused_at, twelve_more}

-- ---- a row

-- A store into row i, which is r.
pub row_store : {B : Type 0} (t : List (List B)) (i j : ℕ) (r : List B) (v : B) → i < length t
    → set (set t i r) i (set (get_or (set t i r) i []) j v) ≡ set t i (set r j v)
row_store t i j r v h = rw (get_or-set_same t i r [] h) (set-set t i r (set r j v))

pub row_is : {B : Type 0} (t : List (List B)) (i : ℕ) (r : List B) → get_or t i [] ≡ r → t ≡ set t i r
row_is {B} t i r e = sym (ap (λ (q : List B). set t i q) (sym e) ∙ set-get_or t i [])

module _ (word : ℕ → ℕ → ℕ) where
  pub row_more : (s : ℕ) (ends : List ℕ) (j : ℕ) → j < length ends → j < max_names
      → set (row_by word (take j ends) s) j (word s (get_or ends j 0)) ≡ row_by word (take (j + 1) ends) s
  unfolding row_by
  row_more s ends j h k = twelve_more (word s) 0 0 ends j h k

  pub no_entries : (s : ℕ) → unused_row ≡ row_by word [] s
  unfolding row_by twelve
  no_entries s = refl

  -- ---- the rows of the first i starts
  module _ (starts ends : List ℕ) where
    pub no_rows : replicate max_names unused_row ≡ block_by word [] ends
    unfolding block_by twelve
    no_rows = refl

    module _ (i : ℕ) (h : i < length starts) where
      pub block_more : i < max_names → set (block_by word (take i starts) ends) i (row_by word ends (get_or starts i 0)) ≡ block_by word (take (i + 1) starts) ends
      unfolding block_by
      block_more k = twelve_more (row_by word ends) unused_row 0 starts i h k

      pub row_unused : i < max_names → get_or (block_by word (take i starts) ends) i [] ≡ unused_row
      unfolding block_by
      row_unused k =
          let e : length (take i starts) ≡ i = length-take-le i starts (omega arith) in
          unused_at (row_by word ends) unused_row (take i starts) [] i (omega arith) k

      pub row_before : (k : ℕ) → k < i → get_or (block_by word (take i starts) ends) k [] ≡ row_by word ends (get_or starts k 0)
      unfolding block_by
      row_before k b =
          let e : length (take i starts) ≡ i = length-take-le i starts (omega arith) in
          used_at (row_by word ends) unused_row (take i starts) [] k (omega arith) ∙ ap (row_by word ends) (get_or-take i starts k 0 b)
