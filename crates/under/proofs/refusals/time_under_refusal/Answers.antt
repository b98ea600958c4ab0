-- `refusals::time_under_refusal` meets its contract.
use mathlib.Core.Path.{sym}
use Rattle.reader.proofs.Kept.{none_broken}
use Rattle.under.proofs.Kept.{under_kept}
use Rattle.under.proofs.refusals.time_under_refusal.Goals as goal

pub work_too_small-requires : goal.work_too_small-requires
work_too_small-requires c = (under_kept _ _ _ _ (sym (none_broken c.pair_under_refusal.ensures c.in_ok-pair_under_refusal.was))).pair.shape
