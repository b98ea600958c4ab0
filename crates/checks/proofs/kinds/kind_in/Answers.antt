-- `kinds::kind_in` meets its contract.
use mathlib.Core.Path.{◌∙◌}
use Rattle.theory.specs.Passed.{all_shaped}
use Rattle.checks.proofs.OracleGrid.{over_oracle, kind_is}
use Rattle.checks.proofs.kinds.kind_in.Goals as goal

pub cell-requires : goal.cell-requires
cell-requires c =
    let a = c.args in
    (over_oracle _ _ c.oracle_body-nodes.ensures a.grid c.requires.1 (all_shaped _ c.requires.0), rw c.oracle_body-nodes.ensures c.requires.2)

pub cell-requires-2 : goal.cell-requires-2
cell-requires-2 c =
    let a = c.args in
    (over_oracle _ _ c.oracle_body-nodes.ensures a.grid c.requires.1 (all_shaped _ c.requires.0), rw c.oracle_body-nodes.ensures c.requires.3)

pub returns : goal.returns
returns c =
    let a = c.args in
    c.kind.ensures ∙ kind_is _ _ c.oracle_body-nodes.ensures a.grid c.requires.1 c.cell.result c.cell-2.result _ _ (rw c.oracle_body-nodes.ensures c.requires.2) (rw c.oracle_body-nodes.ensures c.requires.3) c.cell.ensures c.cell-2.ensures
