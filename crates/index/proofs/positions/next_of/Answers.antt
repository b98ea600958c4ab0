-- `positions::next_of` meets its contract: the part of a word below bit 16.
use native.Mathlib.Omega.{arith}
use borrow.Author.Rules.{rules}
use Rattle.index.specs.Index.{next}
use Rattle.index.proofs.positions.next_of.Goals as goal

pub returns : goal.returns
unfolding next
returns c = (search rules, omega arith)
