-- `parts::refused_block` meets its contract.
use Rattle.block.specs.Block.{refused}
use Rattle.block.proofs.parts.refused_block.Goals as goal

pub returns : goal.returns
unfolding refused
returns c = λ i. record { rule = c.block_record.ensures.0 i; times = c.block_record.ensures.1 i; hops = c.block_record.ensures.2 i }
