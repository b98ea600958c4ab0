-- The arcs of a network's bodies. Assumes nothing.
use Rattle.std.specs.Prelude.{ℕ, ◌≡◌, refl, Bool, List, eqb}
use Rattle.model.specs.Lists.{filter, concat_map}
use Rattle.model.specs.Bytes.{Bytes}
use Rattle.model.specs.Contents.{edge_body}
use Rattle.model.specs.Walk.{Arc}
use Rattle.model.specs.Network.{network, edges, arcs_of, arcs}

-- The arcs of a body of edges.
unfoldable pub arcs_in : Bytes → List Arc
arcs_in b = concat_map arcs_of (edges b)

-- They are the arcs of the file's network.
pub arcs_in_law : (f : Bytes) → arcs (network f) ≡ arcs_in (edge_body f)
unfolding arcs network arcs_in
arcs_in_law f = refl

-- The arcs out of u.
unfoldable pub leaves : ℕ → Arc → Bool
leaves u a = eqb a.from u

unfoldable pub leaving : ℕ → List Arc → List Arc
leaving u arcs = filter (leaves u) arcs
