-- `rows::answer_between` meets its contract. Assumes nothing.
use mathlib.Core.Path.{◌∙◌, sym}
use Rattle.opened.proofs.SearchWords.{local_is, toward_word}
use Rattle.theory.specs.Passed.{all_shaped}
use Rattle.model.specs.Query.{time_answer, answer_of}
use Rattle.lines.proofs.rows.answer_between.Goals as goal

pub far_of-requires : goal.far_of-requires
far_of-requires c = (c.requires.0.shape, c.requires.1, c.requires.2)

pub node_count-requires : goal.node_count-requires
node_count-requires c = c.requires.0.shape

pub time_of-requires : goal.time_of-requires
time_of-requires c = rw c.node_count.ensures (c.requires.3.room, c.requires.2)

pub returns-in-Far : goal.returns-in-Far
unfolding time_answer answer_of
returns-in-Far c = rw (sym c.opened_kind-kind.ensures ∙ c.in-Far.is) c.far_of.ensures

pub returns-in-Local : goal.returns-in-Local
unfolding time_answer answer_of
returns-in-Local c =
    let word = rw c.node_count.ensures at c.time_of.ensures.0 ∙ toward_word _ _ _ _ c.requires.3 c.requires.2 in
    rw (sym c.opened_kind-kind.ensures ∙ c.in-Local.is)
    (c.answer_of.ensures ∙ local_is _ (all_shaped _ c.requires.0.shape) _ _ _ c.requires.1 word)
