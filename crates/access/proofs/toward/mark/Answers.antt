-- `toward::mark` meets its contract: the marks with v, or those that stand.
use mathlib.Core.Path.{sym, ◌∙◌}
use Rattle.marks.proofs.Views.{turn_due, turn_not}
use Rattle.words.proofs.Stays.{only_same}
use Rattle.access.proofs.toward.mark.Goals as goal

pub returns-then-is_due : goal.returns-then-is_due
returns-then-is_due c = record {
  members = c.put.ensures.members ∙ turn_due _ _ _ _ _ (sym c.if-is_due.true ∙
      c.is_due.ensures);
  others = c.put.ensures.others;
}

pub returns-else-is_due : goal.returns-else-is_due
returns-else-is_due c = record { members = turn_not _ _ _ _ _ (sym c.if-is_due.false ∙ c.is_due.ensures); others = only_same _ _ _ }
