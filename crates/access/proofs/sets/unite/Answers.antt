-- `sets::unite` meets its contract.
use Rattle.std.proofs.Common.{rules}
use Rattle.access.proofs.Filled.{united}
use Rattle.access.proofs.sets.unite.Goals as goal

pub returns-clause-members : goal.returns-clause-members
returns-clause-members c = let a = c.args in united a.n a.from a.into a.into a.work.now c.combine.new.work (λ p i h. let k = c.combine.ensures.words p i h in search rules)
