-- `builder::parts::put_network` meets its contract. Assumes nothing.
use Rattle.model.specs.Contents.{network_head}
use Rattle.words.proofs.Parts.{back_part}
use Rattle.builder.proofs.parts.put_network.Goals as goal

pub returns : goal.returns
returns c = rw (back_part c.args.network.now network_head) at c.put.ensures
