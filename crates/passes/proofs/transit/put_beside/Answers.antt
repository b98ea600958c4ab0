-- `transit::put_beside` meets its contract.
use Rattle.passes.proofs.transit.put_beside.Goals as goal

pub returns-then-beside : goal.returns-then-beside
returns-then-beside c = rw (
  ← c.beside.ensures _ _ c.requires.0,
  c.if-beside.true,
  c.put_count.ensures,
)

pub returns-else-beside : goal.returns-else-beside
returns-else-beside c = rw (← c.beside.ensures _ _ c.requires.0, c.if-beside.false)
