-- `names::block_refusal` meets its contract.
use mathlib.Core.Path.{sym}
use Rattle.reader.proofs.Kept.{none_broken}
use Rattle.block.proofs.Kept.{sides_kept}
use Rattle.checks.proofs.NameLists.{named_kept}
use Rattle.block.proofs.names.block_refusal.Goals as goal

pub work_too_small-requires : goal.work_too_small-requires
work_too_small-requires c =
    let a = c.args in
    (named_kept _ a.starts.now a.ends.now (sides_kept _ _ _ (sym (none_broken c.listed_refusal.ensures c.in_ok-listed_refusal.was))).0).shape
