-- `lists::list_start` meets its contract.
use Rattle.model.specs.Oracle.{list_start}
use Rattle.codec.proofs.lists.list_start.Goals as goal

pub returns : goal.returns
unfolding list_start
returns c = c.read32.ensures
