-- `contents::Contents::bodies_broken` meets its contract: rule 2 is what reading found.
use native.Mathlib.Omega.{arith}
use Rattle.contents.proofs.Joins.{by_count, by_end}
use Rattle.contents.proofs.Contents.bodies_broken.Goals as goal

pub returns-then-self-entries : goal.returns-then-self-entries
returns-then-self-entries c = by_count _ _ _ c.requires (λ q. omega arith)

pub returns : goal.returns
returns c = by_end _ _ _ c.requires (omega arith)
