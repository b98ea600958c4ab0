-- Wages sheets over document 01's Line and Fork, computed by the definitions. Assumes nothing.
use Rattle.std.specs.Prelude.{ℕ, ◌≡◌, refl, true, List, [], ◌∷◌, ◌++◌, replicate}
use Rattle.model.specs.Lists.{all, concat_map, total}
use Rattle.model.specs.Bytes.{Bytes, bytes16, bytes32, bytes64}
use Rattle.model.specs.Oracle.{oracle, no_seconds}
use Rattle.model.specs.Query.{seconds_word}
use Rattle.model.specs.Rules.{rule, first_broken}
use Rattle.model.specs.Calls.{output_after, size_after}
use Rattle.model.specs.Trials.{line, fork, fork_without4, usual, Trial, ◌⇒◌, holds}
use Rattle.model.specs.Compute.{computed}
use Rattle.checks.specs.RuleLists.{named_rules}
use Rattle.wages.specs.Wages

-- The legs' bytes, start and end by turns.
named : List ℕ → Bytes
named = concat_map bytes16

-- The call with so many words: the number of the broken rule, the size, and an output of so many bytes afterwards.
call : ℕ → Bytes → Bytes → ℕ → List ℕ
call words o b room =
    let out : Bytes = replicate room 7 in
    let refusal = Wages.wages_refusal o b (replicate words 7) out in
    let r = size_after refusal (Wages.wages_bytes o b) in
    r.rule ∷ r.size ∷ output_after refusal (Wages.wages_bytes o b) out

-- With words enough for five nodes.
wages : Bytes → Bytes → ℕ → List ℕ
wages = call 40

-- Rule 17 alone.
seventeen : Bytes → List ℕ
seventeen b = first_broken (rule 17 (Wages.legs_broken b) ∷ []) ∷ []

-- What is handed back and written, and so many bytes behind it; and a refusal.
sheet : ℕ → List ℕ → ℕ → ℕ → ℕ → List ℕ
sheet size times marked sum behind = 0 ∷ size ∷ (concat_map bytes32 times ++ bytes32 marked ++ bytes64 sum ++ replicate behind 7)

refused : ℕ → ℕ → List ℕ
refused k room = k ∷ 0 ∷ replicate room 7

pub trials : List Trial
trials =
    let line_oracle = oracle line (usual 6) in
    let fork_oracle = oracle (fork []) (usual 6) in
    let without_oracle = oracle fork_without4 (usual 6) in
    -- Line: 0 to 2 is far, 1 to 0 local, and one place twice takes 0; nothing is touched past the sheet.
    (wages line_oracle (named (0 ∷ 2 ∷ 1 ∷ 0 ∷ 2 ∷ 2 ∷ [])) 26
    ⇒ 0 ∷ 24 ∷ 16 ∷ 0 ∷ 0 ∷ 0 ∷ 7 ∷ 0 ∷ 0 ∷ 0 ∷ 0 ∷ 0 ∷ 0 ∷ 0 ∷ 0 ∷ 0 ∷ 0 ∷ 0 ∷ 23 ∷ 0 ∷ 0 ∷ 0 ∷ 0 ∷ 0 ∷ 0 ∷ 0 ∷ 7 ∷ 7 ∷ []) ∷
    -- Fork: 0 to 4 is far; a leg entered again counts again.
    (wages fork_oracle (named (0 ∷ 4 ∷ 1 ∷ 2 ∷ 0 ∷ 4 ∷ [])) 24 ⇒ sheet 24 (11 ∷ 10 ∷ 11 ∷ []) 0 32 0) ∷
    -- Fork with road 4 left out: no walk to place 4, by the table (0) and by the roads (3). Marked legs do not count in the total.
    (wages without_oracle (named (0 ∷ 4 ∷ 0 ∷ 3 ∷ 3 ∷ 4 ∷ [])) 26 ⇒ sheet 24 (no_seconds ∷ 10 ∷ no_seconds ∷ []) 2 10 2) ∷
    -- No legs: twelve zeros.
    (wages line_oracle [] 13 ⇒ 0 ∷ 12 ∷ (replicate 12 0 ++ (7 ∷ []))) ∷
    -- A part of a leg that names no place: 17, for 12 does not look at it. A whole leg that names none and a part: 12.
    (wages line_oracle (named (0 ∷ 2 ∷ 9 ∷ [])) 24 ⇒ refused 17 24) ∷
    (wages line_oracle (named (0 ∷ 2 ∷ []) ++ (0 ∷ [])) 24 ⇒ refused 17 24) ∷
    (wages line_oracle (named (0 ∷ 3 ∷ 0 ∷ [])) 24 ⇒ refused 12 24) ∷
    -- 1,000 legs pass and 1,001 give 17, by that rule alone: to compute the others of so many legs takes over a minute.
    (seventeen (replicate 4000 0) ⇒ 0 ∷ []) ∷
    (seventeen (replicate 4004 0) ⇒ 17 ∷ []) ∷
    -- 17 comes before 14, and 14 before 15. An output one byte short gives 15 and stays.
    (call 0 line_oracle (named (0 ∷ [])) 15 ⇒ refused 17 15) ∷
    (call 23 line_oracle (named (0 ∷ 2 ∷ [])) 15 ⇒ refused 14 15) ∷
    (wages line_oracle (named (0 ∷ 2 ∷ [])) 15 ⇒ refused 15 15) ∷
    (wages line_oracle (named (0 ∷ 2 ∷ [])) 16 ⇒ sheet 16 (16 ∷ []) 0 16 0) ∷
    []

pub trials_hold : all holds trials ≡ true
unfolding trials holds ◌⇒◌ named call wages seventeen sheet refused named_rules total bytes64 seconds_word size_after Wages.leg Wages.leg_count Wages.legs
    Wages.leg_nodes Wages.legs_broken Wages.legs_rules Wages.open_rules Wages.leg_time Wages.leg_times Wages.is_marked Wages.is_time Wages.marked Wages.total_of
    Wages.times_bytes Wages.wages_bytes Wages.wages_rules Wages.wages_refusal line fork fork_without4 computed
trials_hold = refl
