-- `contents::Contents::next` meets its contract: a law for each way out.
use native.Mathlib.Omega.{arith}
use borrow.Author.Rules.{rules}
use Rattle.contents.proofs.Steps.{by_kind, by_offset, by_both}
use Rattle.contents.proofs.Contents.next.Goals as goal

pub returns-then-e-k : goal.returns-then-e-k
returns-then-e-k c = (by_kind _ _ _ c.read_entry-e.ensures (λ q. omega arith), search rules)

pub returns-then-e-self : goal.returns-then-e-self
returns-then-e-self c = (by_offset _ _ _ c.read_entry-e.ensures (λ q. omega arith), search rules)

pub returns : goal.returns
returns c = (by_both _ _ _ c.read_entry-e.ensures (omega arith) (omega arith), omega arith)
