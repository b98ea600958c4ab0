-- A least pair has fewer hops than there are nodes, and is the least total by keys. Assumes nothing.
use Rattle.std.specs.Prelude.{ℕ, ◌≤◌, ◌<◌}
use Rattle.std.proofs.Common.{arith}
use mathlib.Core.List.{Memᴰ}
use Rattle.model.specs.Pair.{Pair, hop_base}
use Rattle.model.specs.Walk.{Least, LeastPair}
use Rattle.model.specs.Network.{Edge, Network, order, timed_arcs, arcs, max_nodes}
use Rattle.theory.specs.Keys.{key_of, few_hops}
use Rattle.theory.proofs.KeyLaws.{least_of_pair}
use Rattle.theory.specs.FarModel.{inside}
use Rattle.theory.specs.PairModel.{same_arcs}

module _ (net : Network) (ends : (e : Edge) → Memᴰ e net.edges → (e.first < order net) × (e.second < order net)) (few : order net ≤ max_nodes) where
  few_nodes : order net ≤ hop_base
  few_nodes = omega (arith, few)

  module _ {u : ℕ} (u_in : u < order net) (t : ℕ) where
    pub pair_hops : {p : Pair} → LeastPair (timed_arcs net) u t p → p.hops < order net
    pair_hops l = few_hops (timed_arcs net) (arcs net) (same_arcs net) (order net) few_nodes (inside net ends) u t u_in l

    -- .. and the least pair is the least total by keys.
    pub pair_least : {p : Pair} → LeastPair (timed_arcs net) u t p → Least (arcs net) u t (key_of p)
    pair_least l = least_of_pair (timed_arcs net) (arcs net) (same_arcs net) (order net) few_nodes (inside net ends) u t u_in l
