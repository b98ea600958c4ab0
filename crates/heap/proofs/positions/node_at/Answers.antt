-- `positions::node_at` meets its contract: the low half of the word.
use mathlib.Core.Path.{refl}
use Rattle.heap.specs.Words.{node}
use Rattle.heap.proofs.positions.node_at.Goals as goal

pub returns : goal.returns
unfolding node
returns c = (refl, c.requires.0.nodes c.args.i c.requires.1)
