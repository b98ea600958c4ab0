-- `cursor::seek` meets its contract: no edge is left behind from block to block.
use Rattle.arcs.specs.Cursor.{rank}
use Rattle.arcs.specs.Seeking.{Onward}
use Rattle.arcs.proofs.cursor.seek.Given as goal

abbrev pub invariant-loop-s : goal.invariant-loop-s
invariant-loop-s l = Onward l.edges l.n l.work l.u l.initial.b l.b

abbrev pub decreases-loop-s : goal.decreases-loop-s
decreases-loop-s l = rank l.edges l.b
