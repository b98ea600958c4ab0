-- The rows of the table, with the times as a search leaves them. Assumes nothing.
use Rattle.std.specs.Prelude.{ℕ, List}
use Rattle.model.specs.Bytes.{Bytes}
use Rattle.algorithms.specs.Rounds.{distance_words}
use Rattle.arcs.specs.Arcs.{arcs_in}
use Rattle.emit.specs.Parts.{row_bytes}

-- The row of v over n nodes, the columns being these nodes.
unfoldable pub row_in : Bytes → ℕ → List ℕ → ℕ → Bytes
row_in edges n columns v = row_bytes (distance_words (arcs_in edges) n v) columns
