-- Whether the old answer stands. Assumes nothing.
use Prim.Native.Nat.{ℕ}
use mathlib.Core.Path.{◌≡◌, refl}
use mathlib.Core.Bool.{Bool, true, false, ◌||◌}
use mathlib.Core.List.{[], ◌∷◌}
use Rattle.model.specs.Bytes.{Bytes}
use Rattle.model.specs.Network.{network, arcs, distance}
use Rattle.model.specs.Query.{time_answer, local_answer, way}
use Rattle.sheet.specs.Sheet.{Effect}
use Rattle.sheet.specs.Under.{network_under, still_driven, is_none, old_stands, time_under}

or-true : (b : Bool) → b || true ≡ true
or-true true = refl
or-true false = refl

module _ (effect : ℕ → Effect) (o : Bytes) (s t : ℕ) where
  abbrev driven : Bool
  driven = still_driven (λ v. distance (network o) v t) (arcs (network_under effect o)) (way (network o) s t)

  pub stands_driven : driven ≡ true → time_answer o s t ≡ time_under effect o s t
  unfolding time_under old_stands
  stands_driven e = rw (e, or-true (is_none (time_answer o s t)))

  pub stands_none : is_none (time_answer o s t) ≡ true → time_answer o s t ≡ time_under effect o s t
  unfolding time_under old_stands
  stands_none e = rw e

  pub stands_not : driven ≡ false → is_none (time_answer o s t) ≡ false → local_answer (network_under effect o) s t ≡ time_under effect o s t
  unfolding time_under old_stands
  stands_not d e = rw (e, d)

-- From a node to itself the old way has no step.
pub stands_itself : (effect : ℕ → Effect) (o : Bytes) (s : ℕ) → way (network o) s s ≡ s ∷ [] → time_answer o s s ≡ time_under effect o s s
unfolding still_driven
stands_itself effect o s e = stands_driven effect o s s (rw e)
