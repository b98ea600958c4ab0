-- `legs::open_refusal` meets its contract.
use mathlib.Core.Path.{sym}
use Rattle.reader.proofs.Kept.{none_broken}
use Rattle.wages.specs.Kept.{legs_kept}
use Rattle.wages.proofs.legs.open_refusal.Goals as goal

pub work_too_small-requires : goal.work_too_small-requires
work_too_small-requires c = (legs_kept _ _ (sym (none_broken c.legs_refusal.ensures c.in_ok-legs_refusal.was))).shape
