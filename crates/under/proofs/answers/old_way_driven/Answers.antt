-- `answers::old_way_driven` meets its contract: the search toward t gives the old time and the old way.
use mathlib.Core.Path.{◌∙◌}
use mathlib.Core.List.{[]}
use borrow.Author.Rules.{rules}
use Rattle.sheet.specs.ArcsUnder.{arcs_under}
use Rattle.arcs.proofs.Bodies.{arcs_bounded, plain}
use Rattle.arcs.proofs.Kept.{edges_behind}
use Rattle.opened.proofs.OpenLaws.{stopped_word}
use Rattle.opened.proofs.StoppedWays.{stopped_driven}
use Rattle.under.proofs.Networks.{noted_edges, noted_then}
use Rattle.under.proofs.answers.old_way_driven.Goals as goal

pub note_lines-requires : goal.note_lines-requires
note_lines-requires c = (c.requires.n_le_max_nodes.5, c.requires.n_le_max_nodes.0, c.requires.n_le_max_nodes.3)

pub search_to-requires : goal.search_to-requires
search_to-requires c =
    let a = c.args in
    let g = noted_edges a.edges.now a.lines.now a.n _ _ c.requires.n_le_max_nodes.5 c.requires.n_le_max_nodes.4 c.requires.lines_value c.note_lines.ensures.noted c.note_lines.ensures.others in
    (c.requires.n_le_max_nodes.0, c.requires.n_le_max_nodes.2, c.requires.n_le_max_nodes.1, search rules, plain _ _ _ g.roads, c.requires.n_le_max_nodes.5)

pub invariant_of-roads : goal.invariant_of-roads
invariant_of-roads c =
    let a = c.args in
    let g = noted_edges a.edges.now a.lines.now a.n _ _ c.requires.n_le_max_nodes.5 c.requires.n_le_max_nodes.4 c.requires.lines_value c.note_lines.ensures.noted c.note_lines.ensures.others in
    record { few = c.requires.n_le_max_nodes.0; enough = search rules; under = ∣ edges_behind _ _ _ _ _ c.search_to.ensures.others g ∣₁ }

pub returns : goal.returns
returns c =
    let a = c.args in
    let g = noted_edges a.edges.now a.lines.now a.n _ _ c.requires.n_le_max_nodes.5 c.requires.n_le_max_nodes.4 c.requires.lines_value c.note_lines.ensures.noted c.note_lines.ensures.others in
    let old = arcs_under a.edges.now [] in
    let fair = arcs_bounded _ _ _ _ (plain a.edges.now a.n _ g.roads) in record {
      driven = c.still_driven.ensures ∙ stopped_driven old a.n fair a.s a.t c.requires.n_le_max_nodes.1 c.requires.n_le_max_nodes.2 _ _ c.search_to.ensures.found _;
      old = stopped_word old a.n a.t a.s _ _ c.requires.n_le_max_nodes.1 c.search_to.ensures.found;
      edges = edges_behind _ _ _ _ _ c.search_to.ensures.others g;
      others = noted_then a.n _ _ _
          c.note_lines.auto.work c.note_lines.ensures.others c.search_to.ensures.others;
    }
