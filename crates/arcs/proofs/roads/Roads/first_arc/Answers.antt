-- `roads::Roads::first_arc` meets its contract: that of the first edge on of which something is left.
use Rattle.arcs.proofs.Passes.{passes_first}
use Rattle.arcs.proofs.Walked.{walked}
use Rattle.arcs.proofs.roads.Roads.first_arc.Goals as goal

pub first_edge-c-requires : goal.first_edge-c-requires
first_edge-c-requires c =
    let a = c.args.self.now in
    record { n_le_max_nodes = (a.few, a.enough, c.requires); indexed_edges = (walked a).roads }

pub returns : goal.returns
returns c = passes_first _ _ _ _ _ _ _ c.arc_under.ensures c.first_edge-c.ensures
