-- `text::write_decimal` meets its contract. Assumes nothing.
use Rattle.model.specs.Listing.{decimal}
use Rattle.lines.proofs.text.write_decimal.Goals as goal

pub write_digits-requires : goal.write_digits-requires
unfolding decimal
write_digits-requires c = c.requires

pub returns : goal.returns
unfolding decimal
returns c = c.write_digits.ensures
