-- What stands in the bytes of a wages sheet, for times that are 32-bit numbers. Assumes nothing.
use Rattle.std.specs.Prelude.{ℕ, zero, suc, ◌+◌, ◌*◌, ◌≤◌, ◌<◌, ◌≡◌, Bool, true, false, cond, List, [], ◌∷◌, ◌++◌, length, get_or}
use Rattle.std.proofs.Common.{arith, ◌∙◌, ap, append_assoc}
use Rattle.model.specs.Lists.{filter, concat_map, total}
use Rattle.model.specs.Bytes.{Bytes, word32, word64, bytes32, bytes64}
use Rattle.theory.specs.FileLaws.{word32_append, word32_read, word64_append, word64_read, length_32}
use Rattle.theory.specs.Members.{length-filter}
use Rattle.wages.specs.Wages.{max_legs, is_marked, is_time, marked, total_of, times_bytes}
use Rattle.wages.specs.Sizes.{times_parts, length_fours}

-- ---- the numbers are small enough for their bytes
abbrev pub Words : List ℕ → Type 0
Words ts = (i : ℕ) → i < length ts → get_or ts i 0 < 4_294_967_296

few_marked : (ts : List ℕ) → marked ts ≤ length ts
unfolding marked
few_marked ts = length-filter is_marked ts

total_most : (ts : List ℕ) → Words ts → total_of ts ≤ 4_294_967_296 * length ts
unfolding total_of filter total
total_most [] small = omega arith
total_most (t ∷ ts) small = step (is_time t) (total_most ts (λ j k. small (suc j) (omega arith)))
  where
    step : (b : Bool) → total (filter is_time ts) ≤ 4_294_967_296 * length ts
        → total (cond b (t ∷ filter is_time ts) (filter is_time ts)) ≤ 4_294_967_296 * suc (length ts)
    step true h = let k : t < 4_294_967_296 = small 0 (omega arith) in omega arith
    step false h = omega arith

-- ---- the times, one after the other
time_in : (ts : List ℕ) (tail : Bytes) → Words ts → (i : ℕ) → i < length ts → word32 (concat_map bytes32 ts ++ tail) (4 * i) ≡ get_or ts i 0
unfolding concat_map
time_in [] tail small i h = absurd (omega arith)
time_in (t ∷ ts) tail small zero h =
    rw (append_assoc (bytes32 t) (concat_map bytes32 ts) tail) (word32_read t (concat_map bytes32 ts ++ tail) (small 0 (omega arith)))
time_in (t ∷ ts) tail small (suc i) h =
    let e : 4 * suc i ≡ length (bytes32 t) + 4 * i = omega (arith, length_32 t) in
    rw (append_assoc (bytes32 t) (concat_map bytes32 ts) tail, e)
    (word32_append (bytes32 t) (concat_map bytes32 ts ++ tail) (4 * i) ∙ time_in ts tail (λ j k. small (suc j) (omega arith)) i (omega arith))

-- ---- the sheet, with other bytes behind it
module _ (ts : List ℕ) (rest : Bytes) (small : Words ts) where
  abbrev tail : Bytes
  tail = bytes32 (marked ts) ++ (bytes64 (total_of ts) ++ rest)

  sheet_is : times_bytes ts ++ rest ≡ concat_map bytes32 ts ++ tail
  sheet_is = rw (
    times_parts ts,
    append_assoc (concat_map bytes32 ts) (bytes32 (marked ts) ++ bytes64 (total_of ts)) rest,
    append_assoc (bytes32 (marked ts)) (bytes64 (total_of ts)) rest,
  )

  pub time_at : (i : ℕ) → i < length ts → word32 (times_bytes ts ++ rest) (4 * i) ≡ get_or ts i 0
  time_at i h = rw sheet_is (time_in ts tail small i h)

  module _ (few : length ts ≤ max_legs) where
    pub marked_at : word32 (times_bytes ts ++ rest) (4 * length ts) ≡ marked ts
    marked_at =
        let e : 4 * length ts ≡ length (concat_map bytes32 ts) + 0 = omega (arith, length_fours ts) in
        rw (sheet_is, e) (word32_append (concat_map bytes32 ts) tail 0 ∙
        word32_read (marked ts) (bytes64 (total_of ts) ++ rest) (omega (arith, few_marked ts)))

    pub total_at : word64 (times_bytes ts ++ rest) (4 * length ts + 4) ≡ total_of ts
    total_at =
        let e : 4 * length ts + 4 ≡ length (concat_map bytes32 ts) + 4 = omega (arith, length_fours ts) in
        let d : 4 ≡ length (bytes32 (marked ts)) + 0 = omega (arith, length_32 (marked ts)) in
        ap (λ (l : Bytes). word64 l (4 * length ts + 4)) sheet_is ∙
        (ap (word64 (concat_map bytes32 ts ++ tail)) e ∙
        (word64_append (concat_map bytes32 ts) tail 4 ∙
        (ap (word64 tail) d ∙
        (word64_append (bytes32 (marked ts)) (bytes64 (total_of ts) ++ rest) 0 ∙
        word64_read (total_of ts) rest (omega (arith, total_most ts small))))))
