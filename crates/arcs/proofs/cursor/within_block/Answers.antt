-- `cursor::within_block` meets its contract: what is passed in the block is not to come.
use Rattle.arcs.proofs.Seek.{since_within}
use Rattle.arcs.proofs.cursor.within_block.Goals as goal

pub returns : goal.returns
returns c = since_within _ _ _ _ c.args.c _ c.requires c.first_incident-edge.ensures
