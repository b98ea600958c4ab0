-- Distances by keys and in pairs: the code goes by keys, the statements by seconds and hops. Assumes nothing.
use Rattle.std.specs.Prelude.{ℕ, ◌≤◌, ◌<◌}
use Rattle.std.proofs.Common.{subst}
use mathlib.Core.List.{Memᴰ}
use Rattle.model.specs.Walk.{Walk, PairWalk, Least}
use Rattle.model.specs.Distance.{Distance, unreachable, finite, IsLeast, IsLeastPair}
use Rattle.model.specs.Network.{Edge, Network, order, timed_arcs, arcs, max_nodes}
use Rattle.theory.specs.Keys.{key_of_pair}
use Rattle.theory.specs.PairModel.{least_pair, none_timed}
use Rattle.theory.proofs.PairLaws.{pair_least}

module _ (net : Network) (ends : (e : Edge) → Memᴰ e net.edges → (e.first < order net) × (e.second < order net)) (few : order net ≤ max_nodes)
    {u : ℕ} (u_in : u < order net) (t : ℕ) where
  pub to_keys : (x : Distance) → IsLeastPair (PairWalk (timed_arcs net) u t) x → IsLeast (Walk (arcs net) u t) x
  to_keys (finite k) l = subst (λ (n : ℕ). Least (arcs net) u t n) (key_of_pair k) (pair_least net ends few u_in t l)
  to_keys unreachable h = (none_timed net ends few u_in t).1 h

  pub to_pairs : (x : Distance) → IsLeast (Walk (arcs net) u t) x → IsLeastPair (PairWalk (timed_arcs net) u t) x
  to_pairs (finite k) l = (least_pair net ends few u_in t l).0
  to_pairs unreachable h = (none_timed net ends few u_in t).0 h
