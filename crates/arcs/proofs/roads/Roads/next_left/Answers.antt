-- `roads::Roads::next_left` meets its contract: the cursor is on, and what is left of its edge is read.
use Rattle.arcs.proofs.Passes.{end_at, at_own}
use Rattle.arcs.proofs.Walked.{walked}
use Rattle.arcs.proofs.roads.Roads.next_left.Goals as goal

pub next_edge-c-requires : goal.next_edge-c-requires
next_edge-c-requires c =
    let a = c.args.self.now in
    record { n_le_max_nodes = (a.few, a.enough, c.requires.u_lt_n); indexed_edges = (walked a).roads; valid = rw c.cursor.ensures c.requires.valid }

pub left_arc-requires : goal.left_arc-requires
left_arc-requires c = end_at _ _ _ _ _ _ (walked c.args.self.now) c.next_edge-c.ensures.valid

pub returns : goal.returns
returns c = at_own _ _ _ _ _ _ _ _ (rw c.cursor.ensures at c.next_edge-c.ensures) c.left_arc.ensures
