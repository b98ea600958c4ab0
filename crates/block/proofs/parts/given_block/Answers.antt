-- `parts::given_block` meets its contract.
use mathlib.Core.Path.{◌∙◌}
use Rattle.block.proofs.parts.given_block.Goals as goal

pub returns : goal.returns
returns c = (c.block_record.ensures.0, c.block_record.ensures.1 ∙ c.parts_of.ensures, c.block_record.ensures.2 ∙ c.parts_of-2.ensures)
