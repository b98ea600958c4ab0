-- `blocks::build_blocks` meets its contract: chains, or none.
use Rattle.index.proofs.Listing.{cleared_index}
use Rattle.index.proofs.blocks.build_blocks.Goals as goal

pub returns : goal.returns
returns c = cleared_index _ _ _ c.requires.n_in_bounds.2
    c.clear.ensures
