-- The wages sheet, document 02's T-04: the legs, the rules, what is written, and the call. Assumes nothing.
use Rattle.std.specs.Prelude.{ℕ, ◌+◌, ◌*◌, ◌/◌, ◌%◌, ◌≡◌, Bool, not, ◌||◌, List, [], ◌∷◌, ◌++◌, map, length, eqb, ltb}
use Rattle.model.specs.Lists.{up_to, filter, concat_map, total}
use Rattle.model.specs.Bytes.{Bytes, word16, bytes32, bytes64, number_size}
use Rattle.model.specs.Oracle.{no_seconds}
use Rattle.model.specs.Query.{seconds_word}
use Rattle.model.specs.Rules.{Rule, rule, first_broken, work_too_small, output_too_small}
use Rattle.model.specs.Calls.{work_after, output_after, size_after}
use Rattle.model.specs.declared.Output.{Output}
use Rattle.checks.specs.RuleLists.{named_rules}

-- ---- the legs: "up to 1,000 legs, two 16-bit place numbers each"

pub record Leg : Type 0 where
  pub start : ℕ
  pub end : ℕ

abbrev pub leg_size : ℕ
leg_size = 2 * number_size

abbrev pub max_legs : ℕ
max_legs = 1_000

unfoldable pub leg : Bytes → ℕ → Leg
leg b i = record { start = word16 b (leg_size * i); end = word16 b (leg_size * i + number_size) }

-- The whole legs, in the order entered.
unfoldable pub leg_count : Bytes → ℕ
leg_count b = length b / leg_size

unfoldable pub legs : Bytes → List Leg
legs b = map (leg b) (up_to (leg_count b))

-- ---- the rules, in checking order; `words` and `room` are the lengths of the working words and of the output

-- "12 looks at whole legs only": the nodes that they name.
unfoldable pub leg_nodes : Bytes → List ℕ
leg_nodes b = concat_map (λ (l : Leg). l.start ∷ l.end ∷ []) (legs b)

-- Rule 17: "over 1,000 legs, or a part of a leg".
unfoldable pub legs_broken : Bytes → Bool
legs_broken b = ltb max_legs (leg_count b) || not (eqb (length b % leg_size) 0)

-- 17 "in its place": directly after 12.
unfoldable pub legs_rules : Bytes → Bytes → List Rule
legs_rules o b = named_rules o (leg_nodes b) ++ (rule 17 (legs_broken b) ∷ [])

-- Up to 14.
unfoldable pub open_rules : Bytes → Bytes → ℕ → List Rule
open_rules o b words = legs_rules o b ++ (rule 14 (work_too_small o words) ∷ [])

-- ---- what is written

-- "A 32-bit time for each in the order entered": "each time is the answer for its leg". T-07: "wages .. keep seconds".
unfoldable pub leg_time : Bytes → Leg → ℕ
leg_time o l = seconds_word o l.start l.end

unfoldable pub leg_times : Bytes → Bytes → List ℕ
leg_times o b = map (leg_time o) (legs b)

-- "'no walk' marked as in the table".
unfoldable pub is_marked : ℕ → Bool
is_marked t = eqb t no_seconds

unfoldable pub is_time : ℕ → Bool
is_time t = not (is_marked t)

-- "The 32-bit number of legs so marked and the 64-bit total of the others": "the total is the sum of the times written".
unfoldable pub marked : List ℕ → ℕ
marked ts = length (filter is_marked ts)

unfoldable pub total_of : List ℕ → ℕ
total_of ts = total (filter is_time ts)

unfoldable pub times_bytes : List ℕ → Bytes
times_bytes ts = concat_map bytes32 ts ++ bytes32 (marked ts) ++ bytes64 (total_of ts)

unfoldable pub wages_bytes : Bytes → Bytes → Bytes
wages_bytes o b = times_bytes (leg_times o b)

-- ---- the call

unfoldable pub wages_rules : Bytes → Bytes → ℕ → ℕ → List Rule
wages_rules o b words room = open_rules o b words ++ (rule 15 (output_too_small (length (wages_bytes o b)) room) ∷ [])

unfoldable pub wages_refusal : Bytes → Bytes → List ℕ → Bytes → ℕ
wages_refusal o b work out = first_broken (wages_rules o b (length work) (length out))

pub record WagesCall (o b : Bytes) (work : List ℕ) (out : Bytes) (r : Output) (work' : List ℕ) (out' : Bytes) : Type 0 where
  pub result : r ≡ size_after (wages_refusal o b work out) (wages_bytes o b)
  pub words : work' ≡ work_after (wages_refusal o b work out) o work
  pub bytes : out' ≡ output_after (wages_refusal o b work out) (wages_bytes o b) out
