-- `answers::time_of` meets its contract.
use mathlib.Core.Path.{◌∙◌, sym}
use Rattle.model.specs.Query.{time_answer, answer_of}
use borrow.Author.Rules.{rules}
use Rattle.opened.proofs.answers.time_of.Goals as goal

pub returns-in-Far : goal.returns-in-Far
unfolding time_answer answer_of
returns-in-Far c = record { answer = rw (sym c.opened_kind-kind.ensures ∙ c.in-Far.is) c.far_of.ensures; others = search rules }

pub returns-in-Local : goal.returns-in-Local
unfolding time_answer answer_of
returns-in-Local c = record { answer = rw (sym c.opened_kind-kind.ensures ∙ c.in-Local.is) c.local_of.ensures.answer; others = c.local_of.ensures.others }
