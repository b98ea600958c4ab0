-- What is known of a pair under the lines of a sheet when the old way has been looked at. Assumes nothing.
use Rattle.std.specs.Prelude.{ℕ, ◌≡◌, Bool, false, List, length}
use Rattle.model.specs.Lists.{any}
use Rattle.model.specs.Bytes.{Bytes}
use Rattle.model.specs.Contents.{node_body, edge_body}
use Rattle.model.specs.Network.{Network, network, node_count, arcs, distance}
use Rattle.model.specs.Oracle.{coded}
use Rattle.model.specs.Query.{way}
use Rattle.words.specs.Frames.{KeptFrom, OnlyIn}
use Rattle.words.specs.Regions.{grid_at, spans_at, span_count}
use Rattle.words.specs.Times.{time}
use Rattle.sheet.specs.Sheet.{lines_in, holds}
use Rattle.sheet.specs.Under.{network_under, still_driven, too_slow}
use Rattle.sheet.specs.ArcsUnder.{left_under}
use Rattle.arcs.specs.Leaving.{EdgesUnder}
use Rattle.opened.specs.Opened.{Stays}

-- The oracle's network as the lines leave it.
abbrev pub net_under : Bytes → Bytes → Network
net_under lines o = network_under (holds (lines_in lines)) o

-- The lines keep rule 20 over the oracle's edges.
abbrev pub QuickLines : Bytes → Bytes → Type 0
QuickLines o lines = any too_slow (left_under (edge_body o) lines) ≡ false

-- From w to w' the spans are filled, and then words before the grid change.
pub record NotedThen (n : ℕ) (w w' : List ℕ) : Type 0 where
  pub mid : List ℕ
  pub size : length mid ≡ length w
  pub noted : OnlyIn (spans_at n) (span_count n) w mid
  pub later : KeptFrom (grid_at n) mid w'

-- r tells whether the old way from s to t can still be driven. The words hold the old time at s, the index and the spans of the lines.
pub record Judged (o lines : Bytes) (s t : ℕ) (w w' : List ℕ) (r : Bool) : Type 0 where
  pub driven : r ≡ still_driven (λ v. distance (network o) v t) (arcs (net_under lines o)) (way (network o) s t)
  pub old : time (node_count (node_body o)) w' s ≡ coded (distance (network o) s t)
  pub edges : EdgesUnder (edge_body o) lines (node_count (node_body o)) w'
  pub stays : Stays o w w'
