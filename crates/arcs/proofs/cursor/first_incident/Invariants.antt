-- `cursor::first_incident` meets its contract: every edge passed has no end at the node.
use Prim.Native.Nat.{ℕ, ◌≤◌, ◌<◌}
use Rattle.index.specs.Index.{Incident}
use Rattle.arcs.proofs.cursor.first_incident.Given as goal

abbrev pub invariant-loop-r : goal.invariant-loop-r
invariant-loop-r l = (j : ℕ) → l.i ≤ j → j < l.r → Incident l.edges l.u j → ⊥
