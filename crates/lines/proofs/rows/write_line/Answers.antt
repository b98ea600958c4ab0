-- `rows::write_line` meets its contract. Assumes nothing.
use Rattle.lines.specs.Texts.{pair_text}
use Rattle.model.specs.Listing.{pair_line}
use Rattle.lines.proofs.rows.write_line.Goals as goal

pub write_pair-requires : goal.write_pair-requires
unfolding pair_line pair_text
write_pair-requires c = rw c.answer_between.ensures c.requires.room

pub returns : goal.returns
unfolding pair_line pair_text
returns c = rw (← c.answer_between.ensures) c.write_pair.ensures
