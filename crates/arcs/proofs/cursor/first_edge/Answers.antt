-- `cursor::first_edge` meets its contract: by links or by blocks.
use mathlib.Core.Path.{sym, ◌∙◌}
use Rattle.arcs.proofs.Step.{head_inside, link_inside, first_linked}
use Rattle.arcs.proofs.cursor.first_edge.Goals as goal

pub link_in-link-requires : goal.link_in-link-requires
link_in-link-requires c =
    let a = c.args in
    let is = sym c.is_linked.ensures ∙ c.if-is_linked.true in
    (c.index_at-at.ensures, c.requires.n_le_max_nodes.0, c.requires.n_le_max_nodes.1, head_inside a.edges.now a.n a.work.now a.u c.requires.indexed_edges c.requires.n_le_max_nodes.2 is c.requires.n_le_max_nodes.1)

pub listed-requires : goal.listed-requires
listed-requires c =
    let a = c.args in
    let is = sym c.is_linked.ensures ∙ c.if-is_linked.true in record {
      at_value = (c.index_at-at.ensures, c.requires.n_le_max_nodes.0, c.requires.n_le_max_nodes.1);
      within = link_inside a.edges.now a.n a.work.now a.u c.requires.indexed_edges c.requires.n_le_max_nodes.2 is _
          c.link_in-link.ensures.0;
    }

pub returns-then-is_linked : goal.returns-then-is_linked
returns-then-is_linked c =
    let a = c.args in
    let is = sym c.is_linked.ensures ∙ c.if-is_linked.true in
    first_linked a.edges.now a.n a.work.now a.u c.requires.indexed_edges c.requires.n_le_max_nodes.2 is _ c.link_in-link.ensures.0 _ c.listed.ensures
