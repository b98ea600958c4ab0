-- `kinds::grid_of` meets its contract.
use native.Mathlib.Omega.{arith}
use mathlib.Core.Path.{◌∙◌, ap}
use lib.ListN.{length}
use Rattle.model.specs.Bytes.{Bytes}
use Rattle.theory.specs.Passed.{all_shaped}
use Rattle.checks.specs.Grids.{oracle_grid}
use Rattle.checks.proofs.OracleGrid.{grid_size}
use Rattle.checks.proofs.kinds.grid_of.Goals as goal

pub read_division-dv-requires : goal.read_division-dv-requires
read_division-dv-requires c = omega (arith, ap (λ (b : Bytes). length b) c.oracle_body.ensures, grid_size _ (all_shaped _ (c.requires)).grid)

pub over-requires : goal.over-requires
over-requires c = rw c.oracle_body-2.ensures (all_shaped _ c.requires).sound.nodes_rule

pub returns : goal.returns
unfolding oracle_grid
returns c = c.over.ensures ∙ rw (c.oracle_body-2.ensures, c.read_division-dv.ensures, c.oracle_body.ensures)
