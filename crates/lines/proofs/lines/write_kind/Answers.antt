-- `lines::write_kind` meets its contract. Assumes nothing.
use Rattle.model.specs.Listing.{kind_text}
use Rattle.lines.proofs.lines.write_kind.Goals as goal

pub write_text-requires : goal.write_text-requires
unfolding kind_text
write_text-requires c = rw c.in-Far.is at c.requires

pub write_text-requires-in-Local : goal.write_text-requires-in-Local
unfolding kind_text
write_text-requires-in-Local c = rw c.in-Local.is at c.requires

pub returns-in-Far : goal.returns-in-Far
unfolding kind_text
returns-in-Far c = rw c.in-Far.is c.write_text.ensures

pub returns-in-Local : goal.returns-in-Local
unfolding kind_text
returns-in-Local c = rw c.in-Local.is c.write_text-in-Local.ensures
