-- The time that a built oracle answers is the distance, for every accepted network, grid and pair. Assumes nothing.
use Rattle.std.specs.Prelude.{ℕ, ◌<◌, ◌≡◌, refl, true}
use Rattle.std.proofs.Common.{◌∙◌, ap}
use Rattle.model.specs.Bytes.{Bytes}
use Rattle.model.specs.Walk.{PairWalk}
use Rattle.model.specs.Distance.{IsLeastPair}
use Rattle.model.specs.Network.{network, order, timed_arcs, distance}
use Rattle.model.specs.Oracle.{oracle}
use Rattle.model.specs.Query.{distance_of, kind_between, time_answer}
use Rattle.model.specs.Rules.{accepted}
use Rattle.model.specs.declared.Division.{Division}
use Rattle.model.specs.declared.Kind.{Kind}
use Rattle.model.specs.declared.Kind.TheVariants.{Far, Local}
use Rattle.theory.specs.PairModel.{distance_pair}
use Rattle.theory.specs.Built.{Good, time_local}
use Rattle.theory.proofs.FarTimes.{time_far}
use Rattle.theory.specs.Passed.{all_passed}
use Rattle.theory.specs.Accepted.{good}
use Rattle.theory.specs.Given.{distance_of_law}

module _ (f : Bytes) (dv : Division) (ok : accepted f dv ≡ true) (s t : ℕ) (hs : s < order (network f)) (ht : t < order (network f)) where
  sound : Good f dv
  sound = good f dv (all_passed f dv ok)

  pub time_exact : distance_of (time_answer (oracle f dv) s t) ≡ distance (network f) s t
  time_exact = step (kind_between (oracle f dv) s t) refl
    where
      step : (k : Kind) → kind_between (oracle f dv) s t ≡ k → distance_of (time_answer (oracle f dv) s t) ≡ distance (network f) s t
      step Far e = ap distance_of (time_far f dv sound s t hs ht e) ∙ distance_of_law Far _ _
      step Local e = ap distance_of (time_local f dv sound s t e) ∙ distance_of_law Local _ _

  -- In pairs: a time is the least pair over all walks from s to t, and with no time there is no walk.
  pub time_pair : IsLeastPair (PairWalk (timed_arcs (network f)) s t) (distance_of (time_answer (oracle f dv) s t))
  time_pair = rw time_exact (distance_pair (network f) sound.ends sound.few hs t)
