-- `network::write_edges` meets its contract. The loop's invariant: the open edges from i on are left to write. Assumes nothing.
use mathlib.Core.Path.{◌≡◌}
use lib.ListN.{length}
use Rattle.model.specs.Bytes.{words16}
use Rattle.model.specs.Network.{edge_count}
use Rattle.emit.proofs.Writing.{WrittenFrom}
use Rattle.convert.specs.Convert.{open_records}
use Rattle.convert.specs.Parts.{edge_left}
use Rattle.convert.proofs.Leaving.{left_from}
use Rattle.convert.proofs.network.write_edges.Given as goal

abbrev pub invariant-loop-i : goal.invariant-loop-i
invariant-loop-i l = (l.m ≡ edge_count l.edges) × (length l.out ≡ length l.initial.out)
    × WrittenFrom l.initial.out l.at (open_records l.edges (words16 l.closed)) l.end l.out (left_from (edge_left l.edges (words16 l.closed)) l.i l.m)
