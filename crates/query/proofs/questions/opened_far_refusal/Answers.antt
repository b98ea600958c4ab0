-- `questions::opened_far_refusal` meets its contract.
use mathlib.Core.Path.{sym}
use Rattle.reader.proofs.Kept.{none_broken}
use Rattle.checks.proofs.RulesKept.{pair_kept}
use Rattle.query.proofs.questions.opened_far_refusal.Goals as goal

pub opened_kind-requires : goal.opened_kind-requires
opened_kind-requires c =
    let k = pair_kept _ _ _ (sym (none_broken c.named_pair_refusal.ensures c.in_ok-named_pair_refusal.was)) in
    (c.requires, k.first, k.second)
