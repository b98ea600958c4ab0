-- The parts of a block of keys are the blocks of the parts of its keys. Assumes nothing.
use Prim.Native.Nat.{ℕ, zero, suc, ◌-◌, ◌≤◌}
use native.Mathlib.Omega.{arith}
use native.Mathlib.Decide.{dec_le}
use mathlib.Core.Path.{◌≡◌, refl, ◌∙◌, ap}
use mathlib.Core.Bool.{true, false}
use mathlib.Core.List.{List, [], ◌∷◌, map, map-append, map-map, append-nil}
use lib.ListN.{length, get_or, take, replicate, length-map, get_or-replicate}
use lib.Seq.{take_all}
use Rattle.model.specs.Bytes.{Bytes}
use Rattle.model.specs.Oracle.{no_walk}
use Rattle.model.specs.Query.{time_word, seconds_word, hops_word}
use Rattle.tables.specs.Bounds.{word_small}
use Rattle.checks.proofs.NameLists.{NamedKept, named_there}
use Rattle.block.specs.Block.{max_names, twelve, row_by, unused_row, block_by}
use Rattle.block.specs.Twelve.{row_unused, square_unused, square_used}
use Rattle.block.specs.Parts.{part_of, parts_of, SmallKeys}

-- ---- a map over a list that is filled up
map-replicate : {A B : Type 0} (f : A → B) (n : ℕ) (x : A) → map f (replicate n x) ≡ replicate n (f x)
map-replicate f zero x = refl
map-replicate f (suc n) x = ap (λ r. f x ∷ r) (map-replicate f n x)

map_twelve : {A B : Type 0} (f : A → B) (unused : A) (used : List A) → map f (twelve unused used) ≡ twelve (f unused) (map f used)
unfolding twelve
map_twelve f unused used =
    map-append f used (replicate (max_names - length used) unused) ∙ rw (map-replicate f (max_names - length used) unused, length-map used f)

-- ---- twelve results for a list of twelve, from the front
pub none_yet : {A B : Type 0} (f : A → B) (unused : B) (l : List A) → replicate max_names unused ≡ twelve unused (map f (take 0 l))
unfolding twelve
none_yet f unused l = refl

pub all_done : {A B : Type 0} (f : A → B) (unused : B) (l : List A) (j : ℕ) → length l ≡ max_names → max_names ≤ j → twelve unused (map f (take j l)) ≡ map f l
unfolding twelve
all_done f unused l j e h =
    let full : max_names - length (map f l) ≡ 0 = omega (arith, length-map l f) in
    rw (take_all j l (omega arith), full) (append-nil (map f l))

-- ---- the parts of a block
module _ (f : ℕ → ℕ) (zero_kept : f 0 ≡ 0) (word : ℕ → ℕ → ℕ) where
  row_parts : (ends : List ℕ) (s : ℕ) → map f (row_by word ends s) ≡ row_by (λ s t. f (word s t)) ends s
  unfolding row_by
  row_parts ends s = map_twelve f 0 (map (word s) ends) ∙ rw (zero_kept, map-map f (word s) ends)

  rows_parts : (ends starts : List ℕ) → map (map f) (map (row_by word ends) starts) ≡ map (row_by (λ s t. f (word s t)) ends) starts
  rows_parts ends [] = refl
  rows_parts ends (s ∷ starts) = λ i. row_parts ends s i ∷ rows_parts ends starts i

  block_parts : (starts ends : List ℕ) → map (map f) (block_by word starts ends) ≡ block_by (λ s t. f (word s t)) starts ends
  unfolding block_by
  block_parts starts ends =
      map_twelve (map f) unused_row (map (row_by word ends) starts) ∙ rw (map-replicate f max_names 0, zero_kept, rows_parts ends starts)

pub seconds_block : (o : Bytes) (starts ends : List ℕ) → parts_of false (block_by (time_word o) starts ends) ≡ block_by (seconds_word o) starts ends
unfolding parts_of part_of seconds_word
seconds_block o starts ends = block_parts (part_of false) refl (time_word o) starts ends

pub hops_block : (o : Bytes) (starts ends : List ℕ) → parts_of true (block_by (time_word o) starts ends) ≡ block_by (hops_word o) starts ends
unfolding parts_of part_of hops_word
hops_block o starts ends = block_parts (part_of true) refl (time_word o) starts ends

-- ---- the keys are small
pub keys_small : (o : Bytes) (starts ends : List ℕ) → NamedKept o starts ends → SmallKeys (block_by (time_word o) starts ends)
keys_small o starts ends kept i hi j hj = pick (dec_le (length starts) i) (dec_le (length ends) j)
  where
    pick : Dec (length starts ≤ i) → Dec (length ends ≤ j) → get_or (get_or (block_by (time_word o) starts ends) i []) j 0 ≤ no_walk
    pick (yes h) d = rw (row_unused (time_word o) starts ends i h hi) (omega (arith, get_or-replicate {A = ℕ} max_names j 0 0 hj))
    pick (no h) (yes k) = omega (arith, square_unused (time_word o) starts ends i (omega (arith, h)) j k hj)
    pick (no h) (no k) =
        let s = named_there o starts i (omega (arith, h)) kept.firsts in
        let t = named_there o ends j (omega (arith, k)) kept.seconds in
        let small = word_small o kept.shape _ _ s t in
        omega (arith, square_used (time_word o) starts ends i (omega (arith, h)) j (omega (arith, k)), small)
