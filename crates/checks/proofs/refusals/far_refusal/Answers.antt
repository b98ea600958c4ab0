-- `refusals::far_refusal` meets its contract.
use mathlib.Core.Path.{sym}
use Rattle.reader.proofs.Kept.{none_broken}
use Rattle.checks.proofs.RulesKept.{pair_kept}
use Rattle.checks.proofs.refusals.far_refusal.Goals as goal

pub kind_between-requires : goal.kind_between-requires
kind_between-requires c =
    let k = pair_kept _ _ _ (sym (none_broken c.pair_refusal.ensures c.in_ok-pair_refusal.was)) in (k.shape, k.first, k.second)
