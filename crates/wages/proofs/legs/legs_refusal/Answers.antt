-- `legs::legs_refusal` meets its contract.
use mathlib.Core.Path.{sym}
use Rattle.reader.proofs.Kept.{none_broken}
use Rattle.checks.proofs.RulesKept.{shaped}
use Rattle.wages.proofs.legs.legs_refusal.Goals as goal

pub named_legs_refusal-requires : goal.named_legs_refusal-requires
named_legs_refusal-requires c = shaped _ (sym (none_broken c.shape_refusal.ensures c.in_ok-shape_refusal.was))
