-- `cursor::next_edge` meets its contract: what is listed from the next entry on, or what comes in the blocks.
use Rattle.arcs.proofs.Step.{next_inside, sought_next, stepped}
use Rattle.arcs.proofs.cursor.next_edge.Goals as goal

pub listed-requires : goal.listed-requires
listed-requires c =
    let a = c.args in record { at_value = (c.index_at-at.ensures, c.requires.n_le_max_nodes.0, c.requires.n_le_max_nodes.1); within = next_inside a.edges.now a.n a.work.now a.u c.requires.indexed_edges c.requires.n_le_max_nodes.2 a.c c.requires.valid.0 c.requires.valid.1 c.if-c-eq1.true }

pub returns-then-c-eq1 : goal.returns-then-c-eq1
returns-then-c-eq1 c =
    let a = c.args in
    stepped a.edges.now a.n a.work.now a.u c.requires.indexed_edges c.requires.n_le_max_nodes.2 a.c c.requires.valid.0 c.requires.valid.1 _
    (sought_next a.edges.now a.n a.work.now a.u c.requires.indexed_edges c.requires.n_le_max_nodes.2 a.c c.requires.valid.0 c.requires.valid.1 c.if-c-eq1.true _
    c.listed.ensures)

pub returns : goal.returns
returns c =
    let a = c.args in
    stepped a.edges.now a.n a.work.now a.u c.requires.indexed_edges c.requires.n_le_max_nodes.2 a.c c.requires.valid.0 c.requires.valid.1 _ c.seek.ensures
