-- `contents::Contents::new` meets its contract.
use Rattle.contents.specs.Reading.{no_contents}
use Rattle.contents.proofs.Contents.new.Goals as goal

pub returns : goal.returns
unfolding no_contents
returns c = rw (← c.entry_at-end.ensures)
