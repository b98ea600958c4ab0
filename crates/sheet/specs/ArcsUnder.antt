-- The arcs of the edges as the lines of a sheet leave them. Assumes nothing.
use Rattle.std.specs.Prelude.{◌≡◌, refl, ℕ, List}
use Rattle.model.specs.Lists.{concat_map}
use Rattle.model.specs.Bytes.{Bytes}
use Rattle.model.specs.Contents.{edge_body}
use Rattle.model.specs.Walk.{Arc}
use Rattle.model.specs.Network.{Edge, arcs_of, arcs}
use Rattle.sheet.specs.Sheet.{lines_in, line_body, holds, effects}
use Rattle.sheet.specs.Under.{left_of, edges_under, network_under}

-- The edges that the lines leave, of a body of edges, and their arcs.
unfoldable pub left_under : Bytes → Bytes → List Edge
left_under edges lines = edges_under (holds (lines_in lines)) edges

unfoldable pub arcs_under : Bytes → Bytes → List Arc
arcs_under edges lines = concat_map arcs_of (left_under edges lines)

-- They are the arcs of the network as the sheet leaves it.
pub arcs_under_law : (o sheet : Bytes) → arcs (network_under (effects sheet) o) ≡ arcs_under (edge_body o) (line_body sheet)
unfolding arcs network_under arcs_under left_under effects
arcs_under_law o sheet = refl

-- The arcs of what the lines leave of edge j.
unfoldable pub arcs_left : Bytes → Bytes → ℕ → List Arc
arcs_left edges lines j = concat_map arcs_of (left_of (holds (lines_in lines)) edges j)
