use Rattle.model.specs.Network.{coordinate}
use Rattle.codec.proofs.records.shifted.Goals as goal

pub returns : goal.returns
unfolding coordinate
returns c = c.wrapping_add_u32.ensures.value
