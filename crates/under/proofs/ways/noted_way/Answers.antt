-- `ways::noted_way` meets its contract.
use borrow.Author.Rules.{rules}
use Rattle.under.proofs.Networks.{noted_edges, noted_then}
use Rattle.under.proofs.ways.noted_way.Goals as goal

pub note_lines-requires : goal.note_lines-requires
note_lines-requires c = (c.requires.n_le_max_nodes.5, c.requires.n_le_max_nodes.0, c.requires.n_le_max_nodes.3)

pub write_way_to-requires : goal.write_way_to-requires
write_way_to-requires c =
    let a = c.args in
    let g = noted_edges a.edges.now a.lines.now a.n _ _ c.requires.n_le_max_nodes.5 c.requires.n_le_max_nodes.4 c.requires.lines_value c.note_lines.ensures.noted c.note_lines.ensures.others in
    (c.requires.n_le_max_nodes.0, c.requires.n_le_max_nodes.1, c.requires.n_le_max_nodes.2, search rules, g)

pub returns : goal.returns
returns c =
    let a = c.args in
    record {
      given = c.write_way_to.ensures.given;
      others = noted_then a.n _ _ _ c.note_lines.auto.work
          c.note_lines.ensures.others c.write_way_to.ensures.others;
    }
