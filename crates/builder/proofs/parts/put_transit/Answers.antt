-- `builder::parts::put_transit` meets its contract. Assumes nothing.
use borrow.Author.Rules.{rules}
use Rattle.builder.proofs.parts.put_transit.Goals as goal

pub write_numbers-requires : goal.write_numbers-requires
write_numbers-requires c = (search rules, search rules, rw c.region.ensures.0 c.requires.2)

pub returns : goal.returns
returns c = rw c.region.ensures.0 at c.write_numbers.ensures
