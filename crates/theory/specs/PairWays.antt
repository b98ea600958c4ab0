-- The way in pairs: T-07's "A way is the first by place numbers among the least walks of this order". Assumes nothing.
use Prim.Native.Nat.{ℕ, suc}
use Rattle.std.specs.Prelude.{◌≡◌, ◌⊎◌}
use Rattle.std.proofs.Math.ListN.{length}
use Rattle.model.specs.Lists.{Distinct}
use Rattle.model.specs.Pair.{Pair}
use Rattle.model.specs.Walk.{PairWalk, nodes_of, Before}
use Rattle.model.specs.Network.{Network, timed_arcs}
use Rattle.model.specs.Query.{way}

-- The way from u to t is the nodes of a walk with the pair p, so that it has as many roads as p has hops, it passes no node twice, and each walk with that
-- pair has the same nodes or comes after it by node numbers.
pub record FirstWay (net : Network) (u t : ℕ) (p : Pair) : Type 0 where
  pub taken : PairWalk (timed_arcs net) u t p
  pub nodes : nodes_of taken.walk ≡ way net u t
  pub count : length (way net u t) ≡ suc p.hops
  pub once : Distinct (way net u t)
  pub first : (other : PairWalk (timed_arcs net) u t p) → (nodes_of other.walk ≡ way net u t) ⊎ Before (way net u t) (nodes_of other.walk)
