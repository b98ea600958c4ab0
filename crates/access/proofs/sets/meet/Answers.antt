-- `sets::meet` meets its contract.
use Rattle.std.proofs.Common.{rules}
use Rattle.access.proofs.Filled.{met}
use Rattle.access.proofs.sets.meet.Goals as goal

pub returns-clause-members : goal.returns-clause-members
returns-clause-members c = let a = c.args in met a.n a.a a.b a.into a.work.now c.combine.new.work (λ p i h. let k = c.combine.ensures.words p i h in search rules)
