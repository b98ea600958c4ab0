-- `refusals::time_refusal` meets its contract.
use mathlib.Core.Path.{sym}
use Rattle.reader.proofs.Kept.{none_broken}
use Rattle.checks.proofs.RulesKept.{pair_kept}
use Rattle.checks.proofs.refusals.time_refusal.Goals as goal

pub work_too_small-requires : goal.work_too_small-requires
work_too_small-requires c = (pair_kept _ _ _ (sym (none_broken c.pair_refusal.ensures c.in_ok-pair_refusal.was))).shape
