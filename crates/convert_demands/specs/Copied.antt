-- Edges copied from a body, as bytes, are the edges that they were. Assumes nothing.
use Rattle.std.specs.Prelude.{ℕ, zero, suc, ◌+◌, ◌*◌, ◌/◌, ◌%◌, ◌<◌, ◌≡◌, refl, length, get_or, drop}
use native.Mathlib.Omega.{arith}
use Rattle.std.proofs.Common.{sym, ◌∙◌, length-append, length-drop, take-append-drop, drop_of_length-le, length-take-le, get_or-take, drop-drop}
use Rattle.std.proofs.Math.Path.{ap}
use mathlib.Core.List.{List, [], ◌∷◌, ◌++◌, Memᴰ}
use Rattle.std.proofs.Math.ListN.{take, get_or-append}
use Rattle.std.proofs.Math.Seq.{take-append_seam, drop-append-add, get_or-drop}
use Rattle.model.specs.Lists.{range, up_to, concat_map}
use Rattle.model.specs.Bytes.{Bytes, byte, word16, word32, cut}
use Rattle.model.specs.Network.{edge, edge_count}
use Rattle.theory.specs.ReadLaws.{word16_drop, word32_drop}
use Rattle.theory.specs.Members.{get_d_mem}
use Rattle.convert.specs.Convert.{edge_record}

-- Every number of a list is one of the body's edges.
abbrev pub Inside : Bytes → List ℕ → Type 0
Inside b l = (i : ℕ) → Memᴰ i l → i < edge_count b

record_size : (b : Bytes) (i : ℕ) → i < edge_count b → length (edge_record b i) ≡ 8
unfolding edge_record cut edge_count
record_size b i h = length-take-le 8 (drop (8 * i) b) (omega (arith, length-drop (8 * i) b))

pub records_size : (b : Bytes) (l : List ℕ) → Inside b l → length (concat_map (edge_record b) l) ≡ 8 * length l
unfolding concat_map
records_size b [] h = refl
records_size b (i ∷ l) h =
    omega (
      arith,
      length-append (edge_record b i) (concat_map (edge_record b) l),
      record_size b i (h i (Memᴰ.head refl)),
      records_size b l (λ k m. h k (Memᴰ.tail m)),
    )

records_drop : (b : Bytes) (j : ℕ) (l : List ℕ) → Inside b l → j < length l
    → drop (8 * j) (concat_map (edge_record b) l) ≡ edge_record b (get_or l j 0) ++ concat_map (edge_record b) (drop (suc j) l)
unfolding concat_map
records_drop b j [] h q = absurd (omega arith)
records_drop b zero (i ∷ l) h q = refl
records_drop b (suc j) (i ∷ l) h q =
    let e : 8 * suc j ≡ length (edge_record b i) + 8 * j = omega (arith, record_size b i (h i (Memᴰ.head refl))) in
    rw e (drop-append-add (edge_record b i) (concat_map (edge_record b) l) (8 * j) ∙ records_drop b j l (λ k m. h k (Memᴰ.tail m)) (omega arith))

-- The bytes of an edge, wherever they stand.
module _ (b : Bytes) (i : ℕ) (h : i < edge_count b) (rest : Bytes) where
  byte_of : (k : ℕ) → k < 8 → byte (edge_record b i ++ rest) k ≡ byte b (8 * i + k)
  unfolding edge_record cut
  byte_of k q =
      get_or-append (edge_record b i) rest 0 k (omega (arith, record_size b i h)) ∙
      (get_or-take 8 (drop (8 * i) b) k 0 q ∙ get_or-drop (8 * i) b k 0)

  word_of : (k : ℕ) → k < 7 → word16 (edge_record b i ++ rest) k ≡ word16 b (8 * i + k)
  unfolding word16
  word_of k q =
      let e : 8 * i + k + 1 ≡ 8 * i + (k + 1) = omega arith in
      rw (byte_of k (omega arith), byte_of (k + 1) (omega arith), e)

  long_of : (k : ℕ) → k < 5 → word32 (edge_record b i ++ rest) k ≡ word32 b (8 * i + k)
  unfolding word32
  long_of k q =
      let e : 8 * i + k + 2 ≡ 8 * i + (k + 2) = omega arith in
      rw (word_of k (omega arith), word_of (k + 2) (omega arith), e)

module _ (b : Bytes) (l : List ℕ) (inside : Inside b l) where
  abbrev copied : Bytes
  copied = concat_map (edge_record b) l

  pub count_copied : edge_count copied ≡ length l
  unfolding edge_count
  count_copied = omega (arith, records_size b l inside)

  module _ (j : ℕ) (h : j < length l) where
    abbrev i : ℕ
    i = get_or l j 0

    abbrev rest : Bytes
    rest = concat_map (edge_record b) (drop (suc j) l)

    below : i < edge_count b
    below = inside i (get_d_mem l j 0 h)

    from : drop (8 * j) copied ≡ edge_record b i ++ rest
    from = records_drop b j l inside h

    pub record_copied : edge_record copied j ≡ edge_record b i
    unfolding edge_record cut
    record_copied = rw from (ap (λ (n : ℕ). take n (edge_record b i ++ rest)) (sym (record_size b i below)) ∙ take-append_seam (edge_record b i) rest)

    pub edge_copied : edge copied j ≡ edge b i
    unfolding edge
    edge_copied = λ k. record { first = p k; second = q k; seconds = r k }
      where
        p : word16 copied (8 * j) ≡ word16 b (8 * i)
        p =
            let z : (n : ℕ) → 8 * n ≡ 8 * n + 0 = λ n. omega arith in
            ap (word16 copied) (z j) ∙ (word16_drop copied (8 * j) 0 ∙ rw from (word_of b i below rest 0 (omega arith) ∙ ap (word16 b) (sym (z i))))

        q : word16 copied (8 * j + 2) ≡ word16 b (8 * i + 2)
        q = word16_drop copied (8 * j) 2 ∙ rw from (word_of b i below rest 2 (omega arith))

        r : word32 copied (8 * j + 4) ≡ word32 b (8 * i + 4)
        r = word32_drop copied (8 * j) 4 ∙ rw from (long_of b i below rest 4 (omega arith))

from_copied : (b : Bytes) (n i : ℕ) → 8 * (i + n) ≡ length b → concat_map (edge_record b) (range i n) ≡ drop (8 * i) b
unfolding concat_map range edge_record cut
from_copied b zero i h = sym (drop_of_length-le b {i = 8 * i} (omega arith))
from_copied b (suc n) i h =
    let z : 8 * suc i ≡ 8 * i + 8 = omega arith in
    let rest : concat_map (edge_record b) (range (suc i) n) ≡ drop 8 (drop (8 * i) b) =
    from_copied b n (suc i) (omega arith) ∙ (rw z (sym (drop-drop 8 (8 * i) b))) in
    rw rest (take-append-drop 8 (drop (8 * i) b))

-- All edges of a body, copied, are the body.
pub all_copied : (b : Bytes) → length b % 8 ≡ 0 → concat_map (edge_record b) (up_to (edge_count b)) ≡ b
unfolding edge_count
all_copied b h = from_copied b (length b / 8) 0 (omega arith)
