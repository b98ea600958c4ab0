-- `square::Square::has` meets its contract.
use Rattle.grid.specs.Squares.{reaches_node}
use Rattle.grid.proofs.square.Square.has.Goals as goal

pub returns : goal.returns
unfolding reaches_node
returns c = rw (c.inside-across.ensures, c.inside-up.ensures, c.read-node.ensures.x, c.read-node.ensures.y)
