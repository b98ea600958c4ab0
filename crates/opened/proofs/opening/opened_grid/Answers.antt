-- `opening::opened_grid` meets its contract.
use Rattle.model.specs.Rules.{words_needed}
use Rattle.theory.specs.Passed.{all_shaped}
use Rattle.theory.specs.Sound.{node_bytes}
use mathlib.Core.Path.{◌∙◌}
use native.Mathlib.Omega.{arith}
use Rattle.opened.proofs.opening.opened_grid.Goals as goal

pub grid_in-requires : goal.grid_in-requires
unfolding words_needed
grid_in-requires c =
    let k = (all_shaped _ c.requires.shape).sound in
    (omega (arith, c.node_count.ensures, (node_bytes _ k).0), omega (arith, c.node_count.ensures, c.requires.room, (node_bytes _ k).1))

pub returns : goal.returns
returns c = c.grid_in.ensures ∙ rw c.node_count.ensures c.requires.grid
