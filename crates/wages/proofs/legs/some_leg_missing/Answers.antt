-- `legs::some_leg_missing` meets its contract.
use Rattle.std.proofs.Common.{rules, leb}
use Rattle.std.proofs.iter.runs.Sources.{ranges}
use mathlib.Core.Path.{sym, ◌∙◌}
use Rattle.codec.proofs.AnyRange.{any_run}
use Rattle.wages.specs.Wages.{leg, legs}
use Rattle.wages.specs.Kept.{some_end, leg_by_leg}
use Rattle.wages.proofs.legs.some_leg_missing.Goals as goal

pub returns : goal.returns
unfolding legs
returns c =
    let a = c.args in
    any_run (some_end (leb a.n)) (leg a.legs.now) _ _ (λ t. search (rules, ranges)) (λ t xs i h e. search (rules, ranges)) ∙ sym (leg_by_leg (leb a.n) a.legs.now)
