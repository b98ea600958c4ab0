-- An accepted network, with its bodies, its number of nodes and its grid at hand. Assumes nothing.
use Rattle.std.specs.Prelude.{ℕ, ◌≡◌}
use Rattle.model.specs.Bytes.{Bytes}
use Rattle.model.specs.Contents.{node_body, edge_body}
use Rattle.model.specs.Network as model
use Rattle.model.specs.Grid.{grid_over}
use Rattle.model.specs.declared.Division.{Division}
use Rattle.theory.specs.Passed.{Passed}
use Rattle.grid.specs.Stored.{grid_of}
use Rattle.grid.specs.declared.Grid.{Grid}

pub record Laid (f : Bytes) (dv : Division) (nodes edges : Bytes) (grid : Grid) (n : ℕ) : Type 0 where
  pub passed : Passed f dv
  pub of_nodes : nodes ≡ node_body f
  pub of_edges : edges ≡ edge_body f
  pub made : grid_of grid ≡ grid_over dv (model.nodes nodes)
  pub count : n ≡ model.node_count nodes
