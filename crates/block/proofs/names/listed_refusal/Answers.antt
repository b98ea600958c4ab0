-- `names::listed_refusal` meets its contract: a broken rule of the shape stands first.
use mathlib.Core.Path.{sym}
use Rattle.reader.proofs.Kept.{none_broken}
use Rattle.checks.proofs.RulesKept.{shaped}
use Rattle.block.proofs.names.listed_refusal.Goals as goal

pub sides_refusal-requires : goal.sides_refusal-requires
sides_refusal-requires c = shaped _ (sym (none_broken c.shape_refusal.ensures c.in_ok-shape_refusal.was))
