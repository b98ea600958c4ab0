-- `wanted::search_wanted` meets its contract: without lines the arcs are those of the edges.
use Rattle.arcs.proofs.Bodies.{plain, plain_arcs}
use Rattle.search.proofs.wanted.search_wanted.Goals as goal

pub search_wanted_under-requires : goal.search_wanted_under-requires
search_wanted_under-requires c =
    let a = c.args in
    record { n_le_max_nodes = c.requires.n_le_max_nodes; edges_under = plain a.edges.now a.n a.work.now c.requires.indexed_edges }

pub returns : goal.returns
returns c =
    let a = c.args in
    record { found = rw (plain_arcs a.edges.now) at c.search_wanted_under.ensures.found; others = c.search_wanted_under.ensures.others }
