-- Which node is to be marked, by the times of a search and the marks so far, both as lists of a word a node. Assumes nothing.
use Rattle.std.specs.Prelude.{ℕ, ◌+◌, ◌<◌, Bool, ◌&&◌, ◌||◌, cond, List, eqb, ltb, set}
use Rattle.model.specs.Lists.{any}
use Rattle.model.specs.Walk.{Arc}
use Rattle.algorithms.specs.Dijkstra.{at}

-- v is flagged.
abbrev pub Flagged : List ℕ → ℕ → Type 0
Flagged flags v = 0 < at flags v

-- The arc leads from v, tight, to a marked node.
unfoldable pub leading : List ℕ → List ℕ → ℕ → Arc → Bool
leading times marks v a = eqb a.from v && (ltb 0 (at marks a.to) && eqb (at times a.to) (at times v + a.cost))

-- v is wanted itself, or an arc leads on from it.
unfoldable pub due : List Arc → List ℕ → List ℕ → List ℕ → ℕ → Bool
due arcs times want marks v = ltb 0 (at want v) || any (leading times marks v) arcs

-- The marks after the turn of v.
unfoldable pub turned : List Arc → List ℕ → List ℕ → List ℕ → ℕ → List ℕ
turned arcs times want marks v = cond (due arcs times want marks v) (set marks v 1) marks
