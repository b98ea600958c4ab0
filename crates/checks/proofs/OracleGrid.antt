-- The kind of a pair, from the cells that the code works out. Assumes nothing.
use Prim.Native.Nat.{ℕ, ◌<◌}
use mathlib.Core.Path.{◌≡◌, sym, ◌∙◌}
use mathlib.Core.Bool.{false, not}
use lib.ListN.{length}
use lib.Dec.{eqb}
use borrow.Author.Tests.{eqb-true}
use Rattle.model.specs.Bytes.{Bytes}
use Rattle.model.specs.Contents.{node_body, grid_body}
use Rattle.model.specs.Network.{node, nodes, node_count}
use Rattle.model.specs.Grid.{grid_broken, division, division_size, cell_of, cells, cell_at, kind_of}
use Rattle.model.specs.Oracle.{grid_body_broken}
use Rattle.model.specs.Query.{kind_between}
use Rattle.theory.specs.Passed.{Shaped, or-false, not-false}
use Rattle.grid.specs.Stored.{grid_of, model_cell, Over}
use Rattle.grid.specs.declared.Grid.{Grid}
use Rattle.grid.specs.declared.Cell.{Cell}
use Rattle.grid.proofs.Cells.{cell_at_law, over_made}
use Rattle.checks.specs.Grids.{oracle_grid}

-- A grid body that keeps rule 8 has 2 bytes, and a g that keeps it.
pub grid_size : (b : Bytes) → grid_body_broken b ≡ false → length b ≡ division_size
unfolding grid_body_broken
grid_size b h = eqb-true (length b) division_size (not-false (or-false (not (eqb (length b) division_size)) (grid_broken (division b).g) h).0)

pub grid_kept : (b : Bytes) → grid_body_broken b ≡ false → grid_broken (division b).g ≡ false
unfolding grid_body_broken
grid_kept b h = (or-false (not (eqb (length b) division_size)) (grid_broken (division b).g) h).1

-- `nb` is the nodes body as it was lent, and r the grid that the code holds.
module _ (o nb : Bytes) (p : nb ≡ node_body o) (r : Grid) (made : grid_of r ≡ oracle_grid o) where
  pub over_oracle : Shaped o → Over r nb
  unfolding oracle_grid
  over_oracle shaped = rw p (over_made r (node_body o) (division (grid_body o)) made shaped.sound.nodes_rule shaped.sound.coordinates
      (grid_kept (grid_body o) shaped.grid))

  cell_is : (c : Cell) (s : ℕ) → s < node_count nb → model_cell c ≡ cell_of (grid_of r) (node nb s)
      → model_cell c ≡ cell_at (cells (oracle_grid o) (nodes (node_body o))) s
  cell_is c s h e = e ∙ (sym (cell_at_law (grid_of r) nb s h) ∙ rw (made, p))

  pub kind_is : (c e : Cell) (s t : ℕ) → s < node_count nb → t < node_count nb → model_cell c ≡ cell_of (grid_of r) (node nb s)
      → model_cell e ≡ cell_of (grid_of r) (node nb t)
      → kind_of (grid_of r) (model_cell c) (model_cell e) ≡ kind_between o s t
  unfolding kind_between oracle_grid
  kind_is c e s t hs ht x y = rw (cell_is c s hs x, cell_is e t ht y, made)
