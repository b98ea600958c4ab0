-- `refusals::pair_under_refusal` meets its contract.
use mathlib.Core.Path.{sym}
use Rattle.reader.proofs.Kept.{none_broken}
use Rattle.checks.proofs.RulesKept.{pair_kept}
use Rattle.under.proofs.refusals.pair_under_refusal.Goals as goal

pub sheet_rule-requires : goal.sheet_rule-requires
sheet_rule-requires c = (pair_kept _ _ _ (sym (none_broken c.pair_refusal.ensures c.in_ok-pair_refusal.was))).shape
