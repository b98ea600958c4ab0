-- `toward::toward` meets its contract: what the search has found, and the marks made after it.
use native.Mathlib.Omega.{arith}
use borrow.Author.Rules.{rules}
use Rattle.arcs.specs.Arcs.{arcs_in}
use Rattle.words.specs.Regions.{search_words}
use Rattle.access.proofs.Fronts.{rest_kept, toward_found}
use Rattle.access.proofs.Wanted.{lacking_want}
use Rattle.marks.proofs.Walks.{stopped_ordered}
use Rattle.index.proofs.Laid.{roads_from}
use Rattle.access.proofs.toward.toward.Goals as goal

pub search_wanted-e-requires : goal.search_wanted-e-requires
search_wanted-e-requires c =
    let a = c.args in
    record { n_le_max_nodes = (search rules, search rules, search rules, omega (arith, lacking_want a.n a.work.now, c.requires.n_le_max_nodes.3), c.requires.n_le_max_nodes.4); indexed_edges = search rules }

pub mark_back-requires : goal.mark_back-requires
mark_back-requires c =
    let a = c.args in
    record { n_le_max_nodes = (search rules, c.search_wanted-e.ensures.found.1, search rules, stopped_ordered _ _ _ _ _ _ c.search_wanted-e.ensures.found.0, search rules); indexed_edges = roads_from a.edges.now a.n a.work.now _ (search_words a.n) (omega arith) c.search_wanted-e.ensures.others c.requires.indexed_edges }

pub returns : goal.returns
returns c =
    let a = c.args in
    record { members = toward_found (arcs_in a.edges.now) a.n a.p c.search_wanted-e.result a.work.now _ _ c.search_wanted-e.ensures.found.0 c.search_wanted-e.ensures.others c.mark_back.ensures.members; others = rest_kept a.n a.work.now _ _ (omega (arith, c.requires.n_le_max_nodes.1)) c.search_wanted-e.ensures.others c.mark_back.ensures.others }
