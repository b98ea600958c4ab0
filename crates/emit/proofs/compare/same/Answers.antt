-- `emit::compare::same` meets its contract. Assumes nothing.
use Rattle.emit.proofs.Comparing.{stands_there, stands_not}
use Rattle.emit.proofs.compare.same.Goals as goal

pub returns-then-starts_with : goal.returns-then-starts_with
returns-then-starts_with c = stands_there _ _ _ _ c.starts_with.ensures.value c.if-starts_with.true

pub returns-else-starts_with : goal.returns-else-starts_with
returns-else-starts_with c = stands_not _ _ _ _ c.starts_with.ensures.value c.if-starts_with.false
