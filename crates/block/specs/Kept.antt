-- What the rules of a block give when none is broken. Assumes nothing.
use Rattle.std.specs.Prelude.{ℕ, ◌≤◌, ◌≡◌, false, List, length, eqb, ltb}
use Rattle.std.proofs.Common.{ltb-false}
use Rattle.model.specs.Bytes.{Bytes}
use Rattle.model.specs.Rules.{words_needed}
use Rattle.theory.specs.Passed.{or-false}
use Rattle.checks.proofs.NameLists.{NamedKept}
use Rattle.block.specs.Block.{max_names, names_broken}

-- A side that keeps rule 17.
pub few_names : (names : List ℕ) → names_broken names ≡ false → length names ≤ max_names
unfolding names_broken
few_names names h = ltb-false max_names (length names) (or-false (eqb (length names) 0) (ltb max_names (length names)) h).1

-- ---- what is kept
pub record BlockKept (o : Bytes) (starts ends : List ℕ) (words : ℕ) : Type 0 where
  pub named : NamedKept o starts ends
  pub few_starts : length starts ≤ max_names
  pub few_ends : length ends ≤ max_names
  pub enough : words_needed o ≤ words
