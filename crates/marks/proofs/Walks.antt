-- What a search has found that stopped at the wanted nodes, and the marks made after it: the nodes on least walks. Assumes nothing.
use Prim.Native.Nat.{ℕ}
use mathlib.Core.Logic.{◌↔◌}
use mathlib.Core.List.{List}
use Rattle.model.specs.Walk.{Arc}
use Rattle.algorithms.specs.Stops.{Stopped}
use Rattle.algorithms.specs.Marks.{Toward, marks}
use Rattle.algorithms.specs.Pass.{Is}
use Rattle.marks.specs.Due.{Flagged}
use Rattle.marks.specs.Ordered.{Ordered}

module _ (arcs : List Arc) (n p : ℕ) (want times order : List ℕ) (f : Stopped arcs n p want times order) where
  pub stopped_ordered : Ordered n times order
  stopped_ordered = record { inside = f.inside; falls = f.falls }

  -- Marked is on a least walk.
  pub marked_walk : (M : Type 0) (v : ℕ) → M ↔ Is arcs times (Flagged want) order v → M ↔ Toward arcs p (Flagged want) v
  marked_walk M v k = let t = marks arcs p _ _ (Flagged want) f.search v in (λ m. t.0 (k.0 m), λ w. k.1 (t.1 w))
