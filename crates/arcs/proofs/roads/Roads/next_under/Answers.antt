-- `roads::Roads::next_under` meets its contract: without lines the walk is the plain one.
use Rattle.arcs.proofs.Passes.{no_bytes}
use Rattle.arcs.proofs.Walked.{walked}
use Rattle.arcs.proofs.roads.Roads.next_under.Goals as goal

pub next_arc-requires : goal.next_arc-requires
next_arc-requires c =
    let a = c.args.self.now in
    record {
      n_le_max_nodes = (a.few, a.enough, c.requires.u_lt_n);
      indexed_edges = (walked a).roads;
      valid_arc = (rw (no_bytes a.lines.now c.if-self-eq0.true) at c.requires.valid_arc.0, c.requires.valid_arc.1);
    }

pub returns-then-self-eq0 : goal.returns-then-self-eq0
returns-then-self-eq0 c = rw (no_bytes c.args.self.now.lines.now c.if-self-eq0.true) c.next_arc.ensures
