-- The rules of a block, counted, and what they give when none is broken. Assumes nothing.
use Rattle.std.specs.Prelude.{ℕ, ◌≡◌, refl, true, false, ◌||◌, List, ◌++◌}
use Rattle.std.proofs.Common.{arith, ltb-false}
use Rattle.model.specs.Bytes.{Bytes}
use Rattle.model.specs.Rules.{first_broken, network_rules, shape_rules, work_too_small, words_needed}
use Rattle.theory.specs.Firsts.{counted, split}
use Rattle.theory.specs.Passed.{or-false}
use Rattle.checks.specs.RuleLists.{named_rules}
use Rattle.checks.proofs.NameLists.{named_counted, named_kept}
use Rattle.block.specs.Kept.{few_names, BlockKept}
use Rattle.block.specs.Block.{names_broken, sides_rules, block_rules}

-- ---- the numbers of the rules
pub sides_counted : (o : Bytes) (starts ends : List ℕ) → counted (sides_rules o starts ends) ≡ true
unfolding sides_rules named_rules counted shape_rules network_rules
sides_counted o starts ends = refl

-- ---- what is kept
pub sides_kept : (o : Bytes) (starts ends : List ℕ) → first_broken (sides_rules o starts ends) ≡ 0 → (first_broken (named_rules o (starts ++ ends)) ≡ 0)
    × (names_broken starts || names_broken ends ≡ false)
unfolding sides_rules
sides_kept o starts ends h = split (named_rules o (starts ++ ends)) 17 (names_broken starts || names_broken ends) (named_counted o (starts ++ ends)) (omega arith)
    h

pub block_kept : (o : Bytes) (starts ends : List ℕ) (words : ℕ) → first_broken (block_rules o starts ends words) ≡ 0 → BlockKept o starts ends words
unfolding block_rules work_too_small
block_kept o starts ends words h =
    let p = split (sides_rules o starts ends) 14 (work_too_small o words) (sides_counted o starts ends) (omega arith) h in
    let q = sides_kept o starts ends p.0 in
    let r = or-false (names_broken starts) (names_broken ends) q.1 in
    record {
      named = named_kept o starts ends q.0;
      few_starts = few_names starts r.0;
      few_ends = few_names ends r.1;
      enough = ltb-false words
          (words_needed o) p.1;
    }
