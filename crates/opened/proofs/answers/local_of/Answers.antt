-- `answers::local_of` meets its contract.
use mathlib.Core.Path.{◌∙◌}
use Rattle.theory.specs.Passed.{all_shaped}
use Rattle.opened.proofs.SearchWords.{local_is}
use Rattle.opened.proofs.answers.local_of.Goals as goal

pub returns : goal.returns
returns c = record { answer = c.answer_of.ensures ∙ local_is _ (all_shaped _ c.requires.0.shape) _ _ _ c.requires.1 c.local_key.ensures.key.0; others = c.local_key.ensures.others }
