-- The grid that an oracle was built under. Assumes nothing.
use Rattle.model.specs.Bytes.{Bytes}
use Rattle.model.specs.Contents.{node_body, grid_body}
use Rattle.model.specs.Network.{nodes}
use Rattle.model.specs.Grid.{Grid, grid_over, division}

unfoldable pub oracle_grid : Bytes → Grid
oracle_grid o = grid_over (division (grid_body o)) (nodes (node_body o))
