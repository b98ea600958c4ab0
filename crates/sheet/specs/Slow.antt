-- Rule 20 line by line, as the code asks it. Assumes nothing.
use Rattle.std.specs.Prelude.{ℕ, ◌+◌, ◌<◌, ◌≤◌, Bool, false, ◌&&◌, ltb}
use Rattle.model.specs.Bytes.{Bytes}
use Rattle.model.specs.Network.{Edge, edge, edge_count, max_seconds}
use Rattle.sheet.specs.Sheet.{Line, Effect, Effect.shut, Effect.delayed, effect_of}

-- An effect that takes an edge over the limit.
unfoldable pub over_by : Effect → Edge → Bool
over_by shut e = false
over_by (delayed x) e = ltb max_seconds (e.seconds + x)

-- What is asked of a line: first whether it would take its edge over the limit, and only then what holds for the edge.
unfoldable pub line_slow : (ℕ → Effect) → Bytes → Line → Bool
line_slow effect b l = over_by (effect_of l) (edge b l.edge) && over_by (effect l.edge) (edge b l.edge)

-- No edge is over the limit by itself. Edges that keep rule 6 are so.
abbrev pub Quick : Bytes → Type 0
Quick b = (i : ℕ) → i < edge_count b → (edge b i).seconds ≤ max_seconds
