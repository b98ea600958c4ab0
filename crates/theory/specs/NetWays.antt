-- The way is the first by node numbers among the least walks, in any network whose edges end at its nodes and take time. Assumes nothing.
use Rattle.std.specs.Prelude.{ℕ, ◌≤◌, ◌<◌, ◌≡◌, ◌⊎◌}
use Rattle.std.proofs.Common.{arith, sym, ◌∙◌}
use Rattle.std.proofs.Math.Decide.{dec_le}
use Rattle.std.proofs.Math.Path.{refl}
use mathlib.Core.List.{[], Memᴰ}
use Rattle.model.specs.Walk.{nodes_of, Before, Walk, Least}
use Rattle.model.specs.Distance.{Distance, unreachable, finite, IsLeast}
use Rattle.model.specs.Network.{Edge, Network, order, arcs, distance}
use Rattle.model.specs.Query as query
use Rattle.theory.specs.Walks.{Positive, outside}
use Rattle.theory.specs.DistanceLaws.{Real, dist_real}
use Rattle.theory.specs.FarModel.{exact, inside}
use Rattle.theory.specs.Way.{Exact, exact_of, way, way_walk, way_order, way_none}

-- What the theorems ask of a network.
pub record Sane (net : Network) : Type 0 where
  pub ends : (e : Edge) → Memᴰ e net.edges → (e.first < order net) × (e.second < order net)
  pub positive : Positive (arcs net)

module _ (net : Network) (sane : Sane net) (t : ℕ) (ht : t < order net) where
  real : (u : ℕ) → Real (arcs net) u t (distance net u t)
  unfolding distance
  real u = dist_real (arcs net) u (order net) t

  pub to : (u : ℕ) → IsLeast (Walk (arcs net) u t) (distance net u t)
  to u = step (dec_le (order net) u) (distance net u t) refl
    where
      step : Dec (order net ≤ u) → (x : Distance) → distance net u t ≡ x → IsLeast (Walk (arcs net) u t) x
      step (no h) x e = rw e at (exact net sane.ends u t (omega arith))
      step (yes h) unreachable e = λ n w. outside (order net) (inside net sane.ends) h ht w
      step (yes h) (finite n) e = absurd (outside (order net) (inside net sane.ends) h ht (rw e at (real u)))

  pub right : Exact (arcs net) t (λ u. distance net u t)
  right = exact_of (arcs net) t (λ u. distance net u t) to

  same : (u : ℕ) → query.way net u t ≡ way (λ v. distance net v t) (arcs net) u
  unfolding query.way way
  same u = refl

  -- Where there is a walk, the way is the list of nodes of a least walk ..
  pub way_least : {u n : ℕ} → Least (arcs net) u t n → (w : Walk (arcs net) u t n) × (nodes_of w ≡ query.way net u t)
  way_least {u} l = let r = way_walk (arcs net) t (λ v. distance net v t) right sane.positive l in (r.0, r.1 ∙ sym (same u))

  -- .. every other least walk comes after it by node numbers ..
  pub way_earliest : {u n : ℕ} → Least (arcs net) u t n → (w : Walk (arcs net) u t n)
      → (nodes_of w ≡ query.way net u t) ⊎ Before (query.way net u t) (nodes_of w)
  way_earliest {u} l w = rw (same u) (way_order (arcs net) t (λ v. distance net v t) right sane.positive l w)

  -- .. and where there is none, it is empty.
  pub way_empty : {u : ℕ} → ((n : ℕ) → Walk (arcs net) u t n → ⊥) → query.way net u t ≡ []
  way_empty {u} h = same u ∙ way_none (arcs net) t (λ v. distance net v t) right sane.positive h
