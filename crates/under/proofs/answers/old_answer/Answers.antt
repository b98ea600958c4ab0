-- `answers::old_answer` meets its contract: far from the lists and the table, local from the search.
use native.Mathlib.Omega.{arith}
use mathlib.Core.Path.{◌∙◌, sym}
use Rattle.model.specs.Query.{time_answer, answer_of}
use Rattle.theory.specs.Passed.{all_shaped}
use Rattle.opened.proofs.SearchWords.{local_is}
use Rattle.under.proofs.Networks.{read_time}
use Rattle.under.proofs.answers.old_answer.Goals as goal

pub time_of-requires : goal.time_of-requires
time_of-requires c = (read_time _ _ c.requires.opened.0 _ c.node_count.ensures, omega (arith, c.node_count.ensures, c.requires.opened.1))

pub returns-in-Far : goal.returns-in-Far
unfolding time_answer answer_of
returns-in-Far c = rw (sym c.opened_kind-kind.ensures ∙ c.in-Far.is) c.far_of.ensures

pub returns-in-Local : goal.returns-in-Local
unfolding time_answer answer_of
returns-in-Local c =
    let t = c.time_of.ensures.0 in
    rw (sym c.opened_kind-kind.ensures ∙ c.in-Local.is)
    (c.answer_of.ensures ∙ local_is _ (all_shaped _ c.requires.opened.0.shape) _ _ _ c.requires.opened.1 (rw c.node_count.ensures at t ∙ c.requires.s_value))
