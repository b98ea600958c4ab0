-- `links::link_all` meets its contract: the edges below i are listed.
use Prim.Native.Nat.{◌+◌, ◌*◌}
use mathlib.Core.Path.{◌≡◌}
use lib.ListN.{length}
use Rattle.index.specs.Index.{by_links, Chained}
use Rattle.index.proofs.links.link_all.Given as goal

abbrev pub invariant-loop-i : goal.invariant-loop-i
invariant-loop-i l = (length l.ix ≡ length l.initial.ix) × Chained l.edges l.i l.n 1 (l.n + 2 * l.i) (by_links l.n l.ix)
