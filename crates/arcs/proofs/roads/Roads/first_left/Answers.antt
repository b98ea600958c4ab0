-- `roads::Roads::first_left` meets its contract: what is left of the edge, or of the first after it of which something is.
use Rattle.arcs.proofs.Passes.{end_at}
use Rattle.arcs.proofs.Walked.{walked}
use Rattle.arcs.proofs.roads.Roads.first_left.Goals as goal

pub left_arc-a-requires : goal.left_arc-a-requires
left_arc-a-requires c = end_at _ _ _ _ _ _ (walked c.args.self.now) c.requires.valid
