-- What crossing nodes are worked out by: the nodes and the edges of an accepted network, and a grid over its nodes. Assumes nothing.
use Rattle.std.specs.Prelude.{◌≡◌, false, List}
use Rattle.model.specs.Bytes.{Bytes}
use Rattle.model.specs.Network.{Edge, nodes, node_count, edges, some_edge_broken}
use Rattle.model.specs.Grid as model
use Rattle.grid.specs.Stored.{grid_of, Over}
use Rattle.grid.specs.declared.Grid.{Grid}

-- The cells of the nodes, and the edges, of their bodies.
abbrev pub cells_in : Grid → Bytes → List model.Cell
cells_in grid b = model.cells (grid_of grid) (nodes b)

abbrev pub edges_in : Bytes → List Edge
edges_in b = edges b

-- No rule about the bodies and the grid is broken.
pub record Ground (nodes edges : Bytes) (grid : Grid) : Type 0 where
  pub over : Over grid nodes
  pub edges_rule : some_edge_broken (node_count nodes) edges ≡ false
