-- `spans::note_all` meets its contract. The loop's invariant: the first k lines are noted.
use mathlib.Core.Path.{◌≡◌}
use lib.ListN.{length}
use Rattle.sheet.specs.Spans.{SpannedTo}
use Rattle.sheet.proofs.spans.note_all.Given as goal

abbrev pub invariant-loop-k : goal.invariant-loop-k
invariant-loop-k l = (length l.spans ≡ length l.initial.spans) × SpannedTo l.lines l.k l.spans
