-- `rows::write_lines` meets its contract. Assumes nothing.
use Rattle.lines.proofs.Turns.{Begun}
use Rattle.model.specs.Network.{node_count}
use Rattle.model.specs.Contents.{node_body}
use lib.ListN.{length}
use mathlib.Core.Path.{◌≡◌}
use Rattle.lines.proofs.rows.write_lines.Given as goal

abbrev pub invariant-loop-t : goal.invariant-loop-t
invariant-loop-t l = (l.n ≡ node_count (node_body l.o)) × (length l.out ≡ length l.initial.out) × Begun l.o l.s l.initial.out l.at l.out l.t
