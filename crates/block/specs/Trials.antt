-- Blocks over document 01's Line and Fork, computed by the definitions. Assumes nothing.
use Rattle.std.specs.Prelude.{ℕ, ◌≡◌, refl, true, List, [], ◌∷◌, ◌++◌, map, replicate, take}
use Rattle.model.specs.Query.{seconds_word, hops_word}
use Rattle.model.specs.Bytes.{Bytes}
use Rattle.model.specs.Lists.{all, concat}
use Rattle.model.specs.Oracle.{oracle, no_seconds, no_hops}
use Rattle.model.specs.Trials.{line, fork, fork_without4, usual, Trial, ◌⇒◌, holds}
use Rattle.model.specs.Compute.{computed}
use Rattle.checks.specs.RuleLists.{named_rules}
use Rattle.block.specs.Block.{names_broken, sides_rules, block_rules, twelve, row_by, block_by, given, refused, block_refusal, block_after}
use Rattle.block.specs.declared.Block.{Block}

-- The number, the 144 squares row by row, and those of the hops.
told : Block → List ℕ
told b = b.rule ∷ (concat b.times ++ concat b.hops)

-- The call, with words enough for five nodes.
block : Bytes → List ℕ → List ℕ → List ℕ
block o starts ends = told (block_after (block_refusal o starts ends (replicate 40 7)) o starts ends)

-- The rows of a block, with zeros behind each and after the last; two blocks of them; and a refusal.
rows : List (List ℕ) → List ℕ
rows used = take 144 (concat (map (λ row. take 12 (row ++ replicate 12 0)) used) ++ replicate 144 0)

blocks : List (List ℕ) → List (List ℕ) → List ℕ
blocks times hops = 0 ∷ (rows times ++ rows hops)

zeros : ℕ → List ℕ
zeros k = k ∷ replicate 288 0

pub trials : List Trial
trials =
    let line_oracle = oracle line (usual 6) in
    let fork_oracle = oracle (fork []) (usual 6) in
    let without_oracle = oracle fork_without4 (usual 6) in
    -- Line: 0 to 2 is far; a start named again, and places that are both start and end.
    (block line_oracle (0 ∷ 1 ∷ 2 ∷ 0 ∷ []) (2 ∷ 1 ∷ 0 ∷ [])
    ⇒ blocks ((16 ∷ 7 ∷ 0 ∷ []) ∷ (9 ∷ 0 ∷ 7 ∷ []) ∷ (0 ∷ 9 ∷ 16 ∷ []) ∷ (16 ∷ 7 ∷ 0 ∷ []) ∷ [])
    ((2 ∷ 1 ∷ 0 ∷ []) ∷ (1 ∷ 0 ∷ 1 ∷ []) ∷ (0 ∷ 1 ∷ 2 ∷ []) ∷ (2 ∷ 1 ∷ 0 ∷ []) ∷ [])) ∷
    -- Fork: 0 to 4 is far; an end named again.
    (block fork_oracle (4 ∷ 1 ∷ []) (0 ∷ 1 ∷ 2 ∷ 4 ∷ 4 ∷ [])
    ⇒ blocks ((11 ∷ 6 ∷ 6 ∷ 0 ∷ 0 ∷ []) ∷ (5 ∷ 0 ∷ 10 ∷ 6 ∷ 6 ∷ []) ∷ []) ((3 ∷ 2 ∷ 2 ∷ 0 ∷ 0 ∷ []) ∷ (1 ∷ 0 ∷ 2 ∷ 2 ∷ 2 ∷ []) ∷ [])) ∷
    -- Fork with road 4 left out: no walk to place 4, by the table (0) and by the roads (3).
    (block without_oracle (0 ∷ 4 ∷ 3 ∷ []) (4 ∷ 3 ∷ 2 ∷ [])
    ⇒ blocks ((no_seconds ∷ 10 ∷ 5 ∷ []) ∷ (0 ∷ no_seconds ∷ no_seconds ∷ []) ∷ (no_seconds ∷ 0 ∷ 5 ∷ []) ∷ [])
    ((no_hops ∷ 2 ∷ 1 ∷ []) ∷ (0 ∷ no_hops ∷ no_hops ∷ []) ∷ (no_hops ∷ 0 ∷ 1 ∷ []) ∷ [])) ∷
    -- 17 without a name and with thirteen; 12 looks at the thirteenth.
    (block line_oracle [] (0 ∷ []) ⇒ zeros 17) ∷
    (block line_oracle (0 ∷ []) (replicate 13 2) ⇒ zeros 17) ∷
    (block line_oracle (replicate 12 2 ++ (3 ∷ [])) (0 ∷ []) ⇒ zeros 12) ∷
    []

pub trials_hold : all holds trials ≡ true
unfolding trials holds ◌⇒◌ told block rows blocks zeros named_rules names_broken sides_rules block_rules seconds_word hops_word twelve row_by block_by given refused
    block_refusal block_after line fork fork_without4
    computed
trials_hold = refl
