-- `positions::is_linked` meets its contract.
use Rattle.model.specs.Network.{edge_count}
use Rattle.index.specs.Index.{linked}
use Rattle.index.proofs.positions.is_linked.Goals as goal

pub returns : goal.returns
unfolding linked edge_count
returns c = c.index_fits.ensures
