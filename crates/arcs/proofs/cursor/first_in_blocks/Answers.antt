-- `cursor::first_in_blocks` meets its contract: what is listed, or every edge where there are no chains.
use Rattle.arcs.proofs.Step.{blocks_seeking, blocks_passing}
use Rattle.arcs.proofs.cursor.first_in_blocks.Goals as goal

pub seek-requires : goal.seek-requires
seek-requires c =
    let a = c.args in
    record { at_value = c.requires.at_value; indexed_edges = c.requires.indexed_edges.0; seeking = blocks_seeking a.edges.now a.n a.work.now a.u c.requires.indexed_edges.0 c.requires.at_value.3 c.requires.indexed_edges.1 _ _ c.head_in-head.ensures.block c.head_in-head.ensures.next _ c.first_stop-stop.ensures.0 }

pub returns : goal.returns
returns c =
    let a = c.args in
    blocks_passing a.edges.now a.n a.work.now a.u c.requires.indexed_edges.0 c.requires.at_value.3 c.requires.indexed_edges.1 _ _ c.head_in-head.ensures.block c.head_in-head.ensures.next _ _
    c.first_stop-stop.ensures.1
    c.seek.ensures
