-- `opening::open_words` meets its contract.
use native.Mathlib.Omega.{arith}
use mathlib.Core.Path.{◌∙◌}
use Rattle.theory.specs.Sound.{node_bytes}
use Rattle.theory.specs.Passed.{all_shaped}
use Rattle.model.specs.Rules.{words_needed}
use Rattle.opened.proofs.OpenLaws.{words_opened}
use Rattle.opened.proofs.opening.open_words.Goals as goal

pub put_grid-requires : goal.put_grid-requires
unfolding words_needed
put_grid-requires c =
    let k = (all_shaped _ c.requires.0).sound in
    (omega (arith, c.node_count-n.ensures, (node_bytes _ k).0), omega (arith, c.node_count-n.ensures, (node_bytes _ k).1))

pub build_index-requires : goal.build_index-requires
unfolding words_needed
build_index-requires c =
    let k = (all_shaped _ c.requires.0).sound in
    record { n_le_max_nodes = (omega (arith, c.node_count-n.ensures, (node_bytes _ k).0), omega (arith, c.node_count-n.ensures, c.put_grid.auto.work)); edges_value = rw (c.node_count-n.ensures, c.oracle_body.ensures) k.some_edge }

pub returns : goal.returns
returns c =
    let a = c.args in
    let made = c.put_grid.ensures.grid ∙ c.grid_of.ensures in
    let long = c.build_index.auto.work ∙ c.put_grid.auto.work in
    let some = (node_bytes _ (all_shaped _ c.requires.0).sound).1 in
    let all = words_opened a.o.now _ c.node_count-n.ensures _ c.oracle_body.ensures a.work.now _ _ some long c.requires.0 c.requires.1 made c.put_grid.ensures.others c.build_index.ensures.roads
    c.build_index.ensures.before c.build_index.ensures.behind in record { opened = all.0; rest = all.1 }
