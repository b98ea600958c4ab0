-- Where in a sheet the lines about an edge stand, in the working words, so that the lines are not all read for every edge. Assumes nothing.
-- The lines are counted in blocks, of one line each up to 65,534 lines. A word holds the first block, times 65536, and one more than the last block of the
-- lines about the edges that share it: edge i has word i % (number of words). 0 is no block.
use Rattle.std.specs.Prelude.{ℕ, ◌+◌, ◌*◌, ◌/◌, ◌%◌, ◌<◌, ◌≤◌, List, length, get_or}
use Rattle.model.specs.Bytes.{Bytes}
use Rattle.model.specs.Pair.{key}
use Rattle.model.specs.Network.{Edge}
use Rattle.model.specs.Oracle.{no_walk}
use Rattle.words.specs.Regions.{spans_in}
use Rattle.sheet.specs.Sheet.{line, line_count, Effect, Effect.shut, Effect.delayed}

-- Lines to a block.
unfoldable pub block_lines : Bytes → ℕ
block_lines lines = line_count lines / 65535 + 1

-- The word of edge i.
unfoldable pub span_of : List ℕ → ℕ → ℕ
span_of spans i = get_or spans (i % length spans) 0

-- The lines of a word, in blocks of `size`: from the first to before the last.
abbrev pub span_first : ℕ → ℕ → ℕ
span_first size x = x / 65536 * size

abbrev pub span_end : ℕ → ℕ → ℕ
span_end size x = x % 65536 * size

-- Line k is among them.
abbrev pub InSpan : ℕ → ℕ → ℕ → Type 0
InSpan size x k = (span_first size x ≤ k) × (k < span_end size x)

-- Each line is among those of the word of its edge.
pub record Spanned (lines : Bytes) (spans : List ℕ) : Type 0 where
  pub each : (k : ℕ) → k < line_count lines → InSpan (block_lines lines) (span_of spans (line lines k).edge) k

-- The same of the first m lines.
pub record SpannedTo (lines : Bytes) (m : ℕ) (spans : List ℕ) : Type 0 where
  pub each : (k : ℕ) → k < m → InSpan (block_lines lines) (span_of spans (line lines k).edge) k

-- Word r has block q, and the blocks that x has.
pub record Widened (x q r : ℕ) : Type 0 where
  pub first : r / 65536 ≤ q
  pub last : q < r % 65536
  pub sooner : 0 < x → r / 65536 ≤ x / 65536
  pub later : x % 65536 ≤ r % 65536

abbrev pub SpannedIn : Bytes → ℕ → List ℕ → Type 0
SpannedIn lines n w = Spanned lines (spans_in n w)

-- What an edge costs as an effect leaves it: the key of its seconds and one hop, or 'no walk' where nothing is left.
unfoldable pub cost_left : Effect → Edge → ℕ
cost_left shut e = no_walk
cost_left (delayed n) e = key (e.seconds + n) 1
