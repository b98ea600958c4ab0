-- How long the sheet is: known from the legs alone. Assumes nothing.
use Rattle.std.specs.Prelude.{ℕ, ◌+◌, ◌*◌, ◌≡◌, refl, List, ◌++◌, map, length}
use Rattle.std.proofs.Common.{arith, ◌∙◌, ap, append_assoc, length-append}
use Rattle.std.proofs.lemmas.List.{length-map}
use Rattle.model.specs.Lists.{up_to, concat_map}
use Rattle.model.specs.Bytes.{Bytes, bytes16, bytes32, bytes64}
use Rattle.theory.specs.FileLaws.{length_32}
use Rattle.theory.specs.RangeLaws.{length-range}
use Rattle.theory.specs.ReadLaws.{length_concat_map}
use Rattle.wages.specs.Wages.{leg, leg_count, legs, leg_time, leg_times, marked, total_of, times_bytes, wages_bytes}
use Rattle.wages.specs.Tallies.{time_size, tally_size}

-- The times, and the tally behind them.
pub times_parts : (ts : List ℕ) → times_bytes ts ≡ concat_map bytes32 ts ++ (bytes32 (marked ts) ++ bytes64 (total_of ts))
unfolding times_bytes
times_parts ts = append_assoc (concat_map bytes32 ts) (bytes32 (marked ts)) (bytes64 (total_of ts))

pub length_fours : (ts : List ℕ) → length (concat_map bytes32 ts) ≡ time_size * length ts
length_fours ts = length_concat_map bytes32 time_size length_32 ts

length_times : (ts : List ℕ) → length (times_bytes ts) ≡ time_size * length ts + tally_size
unfolding times_bytes bytes64 bytes32 bytes16
length_times ts = whole _ _ _ (length_fours ts) refl
  where
    whole : (a c d : Bytes) → length a ≡ time_size * length ts → length c + length d ≡ tally_size → length (a ++ c ++ d) ≡ time_size * length ts + tally_size
    whole a c d p q = omega (arith, length-append (a ++ c) d, length-append a c, p, q)

pub count_times : (o b : Bytes) → length (leg_times o b) ≡ leg_count b
unfolding leg_times legs
count_times o b = length-map (map (leg b) (up_to (leg_count b))) (leg_time o) ∙ (length-map (up_to (leg_count b)) (leg b) ∙ length-range 0 (leg_count b))

pub length_wages : (o b : Bytes) → length (wages_bytes o b) ≡ time_size * leg_count b + tally_size
unfolding wages_bytes
length_wages o b = length_times (leg_times o b) ∙ ap (λ (n : ℕ). time_size * n + tally_size) (count_times o b)
