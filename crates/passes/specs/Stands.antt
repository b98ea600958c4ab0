-- An access body list by list: each list at its place after the starts, written or compared in any order. Assumes nothing.
use Rattle.std.specs.Prelude.{ℕ, zero, suc, ◌+◌, ◌*◌, ◌≤◌, ◌<◌, ◌≡◌, List, [], ◌∷◌, ◌++◌, map, get_or, take}
use Rattle.std.proofs.Common.{zero-add, ◌∙◌, length-append, take-append-drop, drop_of_length-le, drop-drop}
use native.Mathlib.Omega.{arith}
use Rattle.std.proofs.Math.Path.{sym, ap}
use Rattle.std.proofs.Math.ListN.{length, drop}
use Rattle.std.proofs.lemmas.List.{length-map}
use Rattle.model.specs.Lists.{concat, up_to}
use Rattle.model.specs.Bytes.{Bytes, cut}
use Rattle.model.specs.Oracle.{start_size, starts, list_start}
use Rattle.theory.specs.FileLaws.{start_of, concat_bound}
use Rattle.theory.specs.RangeLaws.{length-range, get_d_map_range}
use Rattle.theory.specs.ReadLaws.{length_starts, start_read}

-- A part of a list, and a later one.
concat_order : (i j : ℕ) (ls : List Bytes) → i < j → j ≤ length ls → length (concat (take i ls)) + length (get_or ls i []) ≤ length (concat (take j ls))
unfolding concat
concat_order i j [] h l = absurd (omega arith)
concat_order i zero (x ∷ ls) h l = absurd (omega arith)
concat_order zero (suc j) (x ∷ ls) h l = omega (arith, length-append x (concat (take j ls)))
concat_order (suc i) (suc j) (x ∷ ls) h l = omega (
  arith,
  length-append x (concat (take i ls)),
  length-append x (concat (take j ls)),
  concat_order i j ls
      (omega arith) (omega arith),
)

-- From `at` on, b is these lists one after the other.
joined : (at : ℕ) (ls : List Bytes) (b : Bytes) → length b ≡ at + length (concat ls)
    → ((v : ℕ) → v < length ls → cut (record { start = start_of at ls v; size = length (get_or ls v []) }) b ≡ get_or ls v []) → drop at b ≡ concat ls
unfolding concat cut
joined at [] b size h = drop_of_length-le b {i = at} (omega (arith, size))
joined at (l ∷ ls) b size h =
    let z : at + 0 ≡ at = omega arith in
    let first : take (length l) (drop at b) ≡ l = rw z at (h 0 (omega arith)) in
    let rest : drop (at + length l) b ≡ concat ls = joined (at + length l) ls b (omega (arith, size, length-append l (concat ls))) (λ v k.
    let e : at + length (l ++ concat (take v ls)) ≡ at + length l + length (concat (take v ls)) = omega (arith, length-append l (concat (take v ls))) in
    rw e at (h (suc v) (omega arith))) in
    sym (take-append-drop (length l) (drop at b)) ∙ rw (first, drop-drop (length l) at b, rest)

-- n lists, list v for each v below n.
module _ (n : ℕ) (list : ℕ → Bytes) where
  abbrev pub lists : List Bytes
  lists = map list (up_to n)

  -- Where list v stands, and what is written before the lists.
  unfoldable pub offset : ℕ → ℕ
  offset v = start_of (start_size * n) lists v

  abbrev pub front : Bytes
  front = starts (start_size * n) lists

  abbrev pub whole : Bytes
  whole = front ++ concat lists

  -- List v stands in b at its place.
  abbrev pub Stands : Bytes → ℕ → Type 0
  Stands b v = cut (record { start = offset v; size = length (list v) }) b ≡ list v

  pub count_lists : length lists ≡ n
  count_lists = length-map (up_to n) list ∙ length-range 0 n

  pub list_at : (v : ℕ) → v < n → get_or lists v [] ≡ list v
  list_at v h = get_d_map_range list [] 0 n v h ∙ rw zero-add

  pub length_front : length front ≡ start_size * n
  length_front = length_starts (start_size * n) lists ∙ rw count_lists

  pub length_whole : length whole ≡ start_size * n + length (concat lists)
  length_whole = length-append front (concat lists) ∙ rw length_front

  -- The lists stand after the starts, within the body, and apart from one another.
  pub offset_above : (v : ℕ) → start_size * n ≤ offset v
  unfolding offset
  offset_above v = omega arith

  pub offset_within : (v : ℕ) → v < n → offset v + length (list v) ≤ length whole
  unfolding offset
  offset_within v h = omega (arith, length_whole, ap length (list_at v h), concat_bound v lists (rw count_lists h))

  pub offset_order : (v w : ℕ) → v < w → w < n → offset v + length (list v) ≤ offset w
  unfolding offset
  offset_order v w h l = omega (arith, ap length (list_at v (omega arith)), concat_order v w lists h (rw count_lists (omega arith)))

  -- With the starts in front, and each list at its place, it is the whole body.
  pub assembled : (b : Bytes) → length b ≡ length whole → take (start_size * n) b ≡ front → ((v : ℕ) → v < n → Stands b v) → b ≡ whole
  unfolding offset
  assembled b size s h =
      let after : drop (start_size * n) b ≡ concat lists = joined (start_size * n) lists b (size ∙ length_whole) (λ v k.
      let l : v < n = rw count_lists at k in rw (list_at v l) (h v l)) in
      sym (take-append-drop (start_size * n) b) ∙ rw (s, after)

  -- The place of list v, read from the starts.
  pub read_start : (b : Bytes) → take (start_size * n) b ≡ front → length whole < 4294967296 → (v : ℕ) → v < n → list_start b v ≡ offset v
  unfolding offset list_start
  read_start b s small v h =
      let e : b ≡ front ++ drop (start_size * n) b = sym (take-append-drop (start_size * n) b) ∙ rw s in
      ap (λ (l : Bytes). list_start l v) e ∙ start_read (start_size * n) v lists (drop (start_size * n) b) (rw count_lists h)
      (omega (arith, small, offset_within v h))
