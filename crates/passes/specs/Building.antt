-- What building goes by, from the bodies of the nodes and the edges and a grid over the nodes. Assumes nothing.
use Rattle.std.specs.Prelude.{ℕ, List}
use Rattle.model.specs.Bytes.{Bytes}
use Rattle.model.specs.Network.{node_count, distance}
use Rattle.model.specs.Grid.{cell_at}
use Rattle.model.specs.Access.{access_nodes, access_lists, transit_nodes}
use Rattle.model.specs.Oracle.{list_bytes}
use Rattle.grid.specs.Stored.{grid_of}
use Rattle.grid.specs.declared.Grid.{Grid}
use Rattle.crossing.specs.Ground.{cells_in, edges_in}
use Rattle.access.specs.Networks.{network_in}
use Rattle.words.specs.Regions.{region}
use Rattle.bitset.specs.Members.{members_of}

-- The access nodes of the cell of u, rising.
unfoldable pub access_of : Bytes → Bytes → Grid → ℕ → List ℕ
access_of nodes edges grid u = access_nodes (distance (network_in nodes edges)) (grid_of grid) (cells_in grid nodes) (edges_in edges)
    (cell_at (cells_in grid nodes) u)

-- The transit nodes, rising.
unfoldable pub transit_in : Bytes → Bytes → Grid → List ℕ
transit_in nodes edges grid = transit_nodes (node_count nodes) (access_lists (network_in nodes edges) (grid_of grid))

-- The bytes of the list of u.
unfoldable pub list_in : Bytes → Bytes → Grid → ℕ → Bytes
list_in nodes edges grid u = list_bytes (distance (network_in nodes edges)) (transit_in nodes edges grid) u
    (access_of nodes edges grid u)

-- The members of region k of the working words, rising.
abbrev pub members_in : ℕ → ℕ → List ℕ → List ℕ
members_in n k work = members_of n (region n k work)
