-- The block of times, document 02's T-01: "all times between up to 12 starts and 12 ends in one call"; and with T-07 the like one of hops. Assumes nothing.
use Rattle.std.specs.Prelude.{ℕ, ◌-◌, ◌≡◌, Bool, ◌||◌, cond, List, [], ◌∷◌, ◌++◌, map, length, replicate, eqb, ltb}
use Rattle.model.specs.Bytes.{Bytes}
use Rattle.model.specs.Query.{seconds_word, hops_word}
use Rattle.model.specs.Rules.{Rule, rule, first_broken, work_too_small}
use Rattle.model.specs.Calls.{work_after}
use Rattle.checks.specs.RuleLists.{named_rules}
use Rattle.block.specs.declared.Block.{Block}

-- "Up to 12 starts and 12 ends", "twelve rows of twelve times".
abbrev pub max_names : ℕ
max_names = 12

-- ---- the rules, in checking order; `words` is the length of the working words

-- Rule 17: "when either side names no place or more than 12, directly after 12".
unfoldable pub names_broken : List ℕ → Bool
names_broken names = eqb (length names) 0 || ltb max_names (length names)

unfoldable pub sides_rules : Bytes → List ℕ → List ℕ → List Rule
sides_rules o starts ends = named_rules o (starts ++ ends) ++ (rule 17 (names_broken starts || names_broken ends) ∷ [])

unfoldable pub block_rules : Bytes → List ℕ → List ℕ → ℕ → List Rule
block_rules o starts ends words = sides_rules o starts ends ++ (rule 14 (work_too_small o words) ∷ [])

-- ---- the block

-- Twelve of them, the unused ones at the end.
unfoldable pub twelve : {A : Type 0} → A → List A → List A
twelve unused used = used ++ replicate (max_names - length used) unused

-- "A row for each start and a column for each end in the order named, with unused squares zero"; `word s t` is what the square of s and t holds.
unfoldable pub row_by : (ℕ → ℕ → ℕ) → List ℕ → ℕ → List ℕ
row_by word ends s = twelve 0 (map (word s) ends)

abbrev pub unused_row : List ℕ
unused_row = replicate max_names 0

unfoldable pub block_by : (ℕ → ℕ → ℕ) → List ℕ → List ℕ → List (List ℕ)
block_by word starts ends = twelve unused_row (map (row_by word ends) starts)

-- "Each square equals the single answer for its pair", "'no walk' marked as in the table" (model Query `seconds_word`, `hops_word`). T-07: the block "gains a
-- like one for roads".
unfoldable pub given : Bytes → List ℕ → List ℕ → Block
given o starts ends = record { rule = 0; times = block_by (seconds_word o) starts ends; hops = block_by (hops_word o) starts ends }

-- "A number or block that stands beside it in a record is all zeros."
abbrev pub unused_block : List (List ℕ)
unused_block = replicate max_names unused_row

unfoldable pub refused : ℕ → Block
refused rule = record { rule = rule; times = unused_block; hops = unused_block }

-- ---- the call

unfoldable pub block_refusal : Bytes → List ℕ → List ℕ → List ℕ → ℕ
block_refusal o starts ends work = first_broken (block_rules o starts ends (length work))

unfoldable pub block_after : ℕ → Bytes → List ℕ → List ℕ → Block
block_after rule o starts ends = cond (eqb rule 0) (given o starts ends) (refused rule)

pub record BlockCall (o : Bytes) (starts ends work : List ℕ) (r : Block) (work' : List ℕ) : Type 0 where
  pub result : r ≡ block_after (block_refusal o starts ends work) o starts ends
  pub words : work' ≡ work_after (block_refusal o starts ends work) o work
