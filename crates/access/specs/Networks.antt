-- The network of the bodies of the nodes and the edges; how many nodes and cells there are. Assumes nothing.
use Rattle.std.specs.Prelude.{ℕ, ◌≡◌, length}
use Rattle.std.proofs.Math.Path.{sym}
use Rattle.std.proofs.Common.{◌∙◌}
use mathlib.Core.List.{[]}
use Rattle.std.proofs.Math.ListN.{length-map}
use Rattle.model.specs.Lists.{up_to}
use Rattle.model.specs.Bytes.{Bytes}
use Rattle.model.specs.Network.{Network, node, nodes, node_count, order}
use Rattle.model.specs.Grid.{cells}
use Rattle.theory.specs.RangeLaws.{length-range}
use Rattle.grid.specs.declared.Grid.{Grid}
use Rattle.crossing.specs.Ground.{cells_in, edges_in}

abbrev pub network_in : Bytes → Bytes → Network
network_in b edges = record { nodes = nodes b; edges = edges_in edges }

module _ (b : Bytes) (n : ℕ) (size : n ≡ node_count b) where
  pub count_order : (edges : Bytes) → order (network_in b edges) ≡ n
  unfolding order nodes
  count_order edges = length-map (up_to (node_count b)) (node b) ∙ (length-range 0 (node_count b) ∙ sym size)

  pub count_cells : (grid : Grid) → length (cells_in grid b) ≡ n
  unfolding cells order
  count_cells grid = length-map (nodes b) _ ∙ count_order []
