-- `cells::beside` meets its contract.
use native.Mathlib.Omega.{arith}
use Rattle.model.specs.Network.{node_count}
use Rattle.crossing.proofs.Alike.{beside_made}
use Rattle.crossing.proofs.cells.beside.Goals as goal

pub has-requires : goal.has-requires
unfolding node_count
has-requires c = omega arith

pub returns : goal.returns
returns c = beside_made c.args.nodes.now c.args.square c.args.v _ c.requires
    c.has.ensures
