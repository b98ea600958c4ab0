-- `far::far_answer` meets its contract.
use Rattle.tables.proofs.far.far_answer.Goals as goal

pub returns : goal.returns
returns c = rw (← c.pairs_tried-pairs.ensures, ← c.far_key.ensures.0) c.answer_of.ensures
