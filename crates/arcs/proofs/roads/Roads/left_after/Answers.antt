-- `roads::Roads::left_after` meets its contract: the first arc from the next edge on.
use Rattle.arcs.proofs.Passes.{found_edge, passes_next}
use Rattle.arcs.proofs.Walked.{walked}
use Rattle.arcs.proofs.roads.Roads.left_after.Goals as goal

pub next_edge-c-requires : goal.next_edge-c-requires
next_edge-c-requires c =
    let a = c.args.self.now in
    let v = c.requires.valid_arc.0 in
    record {
      n_le_max_nodes = (a.few, a.enough, c.requires.u_lt_n);
      indexed_edges = (walked a).roads;
      valid = rw c.cursor.ensures (v.cursor, found_edge a.edges.now a.lines.now a.n a.work.now c.args.u c.args.a v.found c.requires.valid_arc.1);
    }

pub returns : goal.returns
returns c =
    passes_next _ _ _ _ _ _ _ c.first_left.ensures c.args.a c.requires.valid_arc.0.found c.requires.valid_arc.1 (rw c.cursor.ensures at c.next_edge-c.ensures)
