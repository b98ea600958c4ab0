-- What the rules up to 14 give when none is broken. Assumes nothing.
use Rattle.std.specs.Prelude.{ℕ, ◌≡◌}
use Rattle.std.proofs.Common.{arith, ltb-false}
use Rattle.model.specs.Bytes.{Bytes}
use Rattle.model.specs.Rules.{first_broken, work_too_small, words_needed}
use Rattle.theory.specs.Firsts.{split}
use Rattle.wages.specs.Wages.{legs_rules, open_rules}
use Rattle.wages.specs.Kept.{legs_counted, legs_kept, OpenKept}

pub open_kept : (o b : Bytes) (words : ℕ) → first_broken (open_rules o b words) ≡ 0 → OpenKept o b words
unfolding open_rules work_too_small
open_kept o b words h =
    let p = split (legs_rules o b) 14 (work_too_small o words) (legs_counted o b) (omega arith) h in
    record { legs = legs_kept o b p.0; enough = ltb-false words (words_needed o) p.1 }
