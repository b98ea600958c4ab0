-- `NetWays` of an accepted network and of a well-shaped oracle alike. Assumes nothing.
use Rattle.std.specs.Prelude.{ℕ, ◌<◌, ◌≡◌, ◌⊎◌, true, []}
use Rattle.model.specs.Bytes.{Bytes}
use Rattle.model.specs.Walk.{nodes_of, Before, Walk, Least}
use Rattle.model.specs.Distance.{IsLeast}
use Rattle.model.specs.Network.{network, order, arcs, distance}
use Rattle.model.specs.Oracle.{oracle}
use Rattle.model.specs.Rules.{accepted}
use Rattle.model.specs.declared.Division.{Division}
use Rattle.theory.specs.Built.{same_network}
use Rattle.theory.specs.Passed.{Sound, all_passed}
use Rattle.theory.specs.Sound.{ends, positive}
use Rattle.theory.specs.Accepted.{good}
use Rattle.theory.specs.NetWays.{Sane}
use Rattle.theory.specs.NetWays as ways
use Rattle.model.specs.Query as query

module _ (f : Bytes) (ok : Sound f) where
  pub sane : Sane (network f)
  sane = record { ends = ends f ok; positive = positive f ok }

  module _ (t : ℕ) (ht : t < order (network f)) where
    pub to : (u : ℕ) → IsLeast (Walk (arcs (network f)) u t) (distance (network f) u t)
    to = ways.to (network f) sane t ht

    pub way_least : {u n : ℕ} → Least (arcs (network f)) u t n → (w : Walk (arcs (network f)) u t n) × (nodes_of w ≡ query.way (network f) u t)
    way_least = ways.way_least (network f) sane t ht

    pub way_earliest : {u n : ℕ} → Least (arcs (network f)) u t n → (w : Walk (arcs (network f)) u t n)
        → (nodes_of w ≡ query.way (network f) u t) ⊎ Before (query.way (network f) u t) (nodes_of w)
    way_earliest = ways.way_earliest (network f) sane t ht

    pub way_empty : {u : ℕ} → ((n : ℕ) → Walk (arcs (network f)) u t n → ⊥) → query.way (network f) u t ≡ []
    way_empty = ways.way_empty (network f) sane t ht

-- The way over the built oracle is that of the network.
pub way_built : (f : Bytes) (dv : Division) → accepted f dv ≡ true → (u t : ℕ) → query.way (network (oracle f dv)) u t ≡ query.way (network f) u t
way_built f dv ok u t = rw (same_network f dv (good f dv (all_passed f dv ok)))
