-- A sheet without lines. Assumes nothing.
use Rattle.std.specs.Prelude.{ℕ, ◌≡◌, false}
use Rattle.model.specs.Lists.{any}
use Rattle.model.specs.Bytes.{Bytes}
use Rattle.model.specs.Contents.{node_body, edge_body}
use Rattle.model.specs.Network.{network, node_count}
use Rattle.theory.specs.Passed.{Sound}
use Rattle.sheet.specs.Sheet.{line_count, line_body, effects, names_broken}
use Rattle.sheet.specs.Under.{network_under, slow_broken}
use Rattle.sheet.proofs.Lasts.{no_lines, none_held}
use Rattle.sheet.proofs.Ground.{all_quick}
use Rattle.sheet_demands.specs.Changed.{nothing_changed}

-- ---- a sheet without lines
module _ (sheet : Bytes) (empty : line_count (line_body sheet) ≡ 0) where
  pub empty_network : (o : Bytes) → network_under (effects sheet) o ≡ network o
  unfolding effects
  empty_network o = nothing_changed (effects sheet) (none_held (line_body sheet) empty) o

  pub empty_names : (m : ℕ) → names_broken m sheet ≡ false
  unfolding names_broken any
  empty_names m = rw (no_lines (line_body sheet) empty)

  pub empty_slow : (o : Bytes) → Sound o → slow_broken (effects sheet) o ≡ false
  unfolding slow_broken network
  empty_slow o sound =
      rw (empty_network o) (all_quick (node_count (node_body o)) (edge_body o) sound.some_edge)
