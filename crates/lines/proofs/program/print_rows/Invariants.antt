-- `program::print_rows` meets its contract. Assumes nothing.
use Rattle.model.specs.Network.{node_count}
use Rattle.model.specs.Contents.{node_body}
use Rattle.opened.specs.Opened.{Opened}
use lib.ListN.{length}
use mathlib.Core.Path.{◌≡◌}
use Rattle.lines.proofs.program.print_rows.Given as goal

abbrev pub invariant-loop-s : goal.invariant-loop-s
invariant-loop-s g l = (l.n ≡ node_count (node_body l.o)) × Opened l.o l.work × (length l.work ≡ length l.initial.work) × (length l.out ≡ length l.initial.out)
