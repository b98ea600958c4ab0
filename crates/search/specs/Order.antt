-- The settle order of a search. Assumes nothing.
use Rattle.std.specs.Prelude.{ℕ, List, map}
use Rattle.heap.specs.Words.{low}
use Rattle.words.specs.Regions.{order_in}

-- The settled nodes from position e on, while the words still have positions in their high halves.
unfoldable pub settle_order : ℕ → ℕ → List ℕ → List ℕ
settle_order n e work = map low (order_in n e work)
