-- Whether an old way can still be driven, one step after the other. Assumes nothing.
-- d is the distance to the way's end, `old` the arcs that it was found over, and `new` those that a sheet leaves.
use Rattle.std.specs.Prelude.{ℕ, ◌<◌, ◌≡◌, Bool, true, false, List, ◌∷◌}
use Rattle.model.specs.Walk.{Arc}
use Rattle.model.specs.Distance.{Distance, finite}
use Rattle.model.specs.Query.{way_after}
use Rattle.sheet.specs.Under.{still_driven}
use Rattle.way.specs.declared.driven.Step.{Step}
use Rattle.way.specs.declared.driven.Step.TheVariants.{To, End, Broken}

-- The rest of the way, from u on, which is `left` from its end.
abbrev pub rest_driven : (ℕ → Distance) → List Arc → List Arc → ℕ → ℕ → Bool
rest_driven d old new left u = still_driven d new (u ∷ way_after d old left u)

-- r is the step on from u: to the next node, which is nearer to the end, and the rest is driven just where that from there on is; or the way ends at u; or the
-- step cannot be driven.
pub record NextDriven (d : ℕ → Distance) (old new : List Arc) (n u left : ℕ) (r : Step) : Type 0 where
  pub on : (v : ℕ) → r ≡ To v → (v < n) × ((x : ℕ) × (d v ≡ finite x) × (x < left) × (rest_driven d old new left u ≡ rest_driven d old new x v))
  pub ended : r ≡ End → rest_driven d old new left u ≡ true
  pub broken : r ≡ Broken → rest_driven d old new left u ≡ false
