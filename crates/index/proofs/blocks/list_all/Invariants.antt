-- `blocks::list_all` meets its contract: the edges below i are listed.
use Prim.Native.Nat.{◌≤◌}
use mathlib.Core.Path.{◌≡◌}
use lib.ListN.{length}
use Rattle.index.specs.Index.{by_blocks, Chained}
use Rattle.index.proofs.blocks.list_all.Given as goal

abbrev pub invariant-loop-i : goal.invariant-loop-i
invariant-loop-i l = (l.n ≤ l.k) × (l.k ≤ length l.ix) × (length l.ix ≡ length l.initial.ix)
    × Chained l.edges l.i l.n l.s l.k (by_blocks l.ix)
