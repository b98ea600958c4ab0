-- `near::search_until` meets its contract.
use Rattle.model.specs.Rules.{words_needed}
use Rattle.theory.specs.Passed.{all_shaped}
use Rattle.theory.specs.Sound.{node_bytes}
use Rattle.block.proofs.NearLaws.{stopped_times}
use native.Mathlib.Omega.{arith}
use Rattle.block.proofs.near.search_until.Goals as goal

pub search_wanted-requires : goal.search_wanted-requires
unfolding words_needed
search_wanted-requires c =
    let o = c.requires.opened.0 in
    let n = (node_bytes _ (all_shaped _ o.shape).sound).0 in
    record { n_le_max_nodes = (omega (arith, c.node_count.ensures, n), omega (arith, c.node_count.ensures, c.requires.opened.1), omega (arith, c.node_count.ensures, o.room), rw c.node_count.ensures c.requires.o_bound, omega (arith, c.node_count.ensures, c.requires.opened.2)); indexed_edges = rw (c.node_count.ensures, c.oracle_body.ensures) o.roads }

pub returns : goal.returns
returns c =
    let a = c.args in
    record { times = stopped_times a.o.now _ c.node_count.ensures _ c.oracle_body.ensures a.s a.work.now _ _ c.search_wanted.ensures.found.0; others = rw c.node_count.ensures at c.search_wanted.ensures.others }
