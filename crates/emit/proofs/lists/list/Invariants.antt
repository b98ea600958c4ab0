-- `emit::lists::list` meets its contract. The loop's invariant: `rank` counts the transit nodes below v, and the entries of the access nodes from v on are
-- left. Assumes nothing.
use Rattle.emit.proofs.Indexes.{entries_from, list_for}
use Rattle.emit.proofs.Taking.{Taking}
use Rattle.bitset.specs.Members.{members_of}
use lib.ListN.{length}
use mathlib.Core.Path.{◌≡◌}
use Prim.Native.Nat.{◌≤◌}
use Rattle.emit.proofs.lists.list.Given as goal

abbrev pub invariant-loop-v : goal.invariant-loop-v
invariant-loop-v g l = (l.rank ≤ l.v) × (l.rank ≡ length (members_of l.v l.transit))
    × Taking g.S.Sink.fits g.S.Sink.took l.fn.to (list_for l.n l.access l.transit l.work) l.to (entries_from l.n l.access l.transit l.work l.v)
