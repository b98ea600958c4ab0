-- `rules::access::entry_broken` meets its contract. Assumes nothing.
use native.Mathlib.Omega.{arith}
use borrow.Author.Tests.{lt-ltb, le-ltb, le-leb, lt-leb}
use mathlib.Core.Bool.{or-true}
use Rattle.rules.proofs.access.entry_broken.Goals as goal

pub returns-then-index-least : goal.returns-then-index-least
returns-then-index-least c = rw (← c.read16-index.ensures.0) (simp (lt-ltb c.read16-index.result c.args.least (omega arith)))

pub returns-then-transit-index : goal.returns-then-transit-index
returns-then-transit-index c = rw (← c.read16-index.ensures.0) (simp (
  le-leb c.args.transit c.read16-index.result
      (omega arith),
  or-true,
))

pub returns : goal.returns
returns c =
    let a = c.args in
    rw (← c.read16-index.ensures.0) (simp (le-ltb c.read16-index.result a.least (omega arith), lt-leb a.transit c.read16-index.result (omega arith))
    c.value_broken.ensures)
