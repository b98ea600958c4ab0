-- `contents::contents_broken` meets its contract: rule 1, test by test.
use native.Mathlib.Omega.{arith}
use Rattle.contents.proofs.Head.{by_length, by_edition, by_entries, by_contents}
use Rattle.contents.proofs.contents_broken.Goals as goal

pub returns-then-f-lt-ENTRIES_AT : goal.returns-then-f-lt-ENTRIES_AT
returns-then-f-lt-ENTRIES_AT c = by_length _ _ _ (omega arith)

pub returns-then-byte-edition : goal.returns-then-byte-edition
returns-then-byte-edition c = by_edition _ _ _ _ c.byte.ensures.0 (λ q. omega arith)

pub returns-then-byte-entries : goal.returns-then-byte-entries
returns-then-byte-entries c = by_entries _ _ _ _ c.byte-2.ensures.0 (λ q. omega arith)

pub returns : goal.returns
returns c = by_contents _ _ _ _ _ _ (omega arith) c.byte.ensures.0 (omega arith) c.byte-2.ensures.0
    (omega arith) c.entry_at.ensures
