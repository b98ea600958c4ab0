-- `toward::is_due` meets its contract: v is in region WANT, or leads on.
use mathlib.Core.Path.{sym, ◌∙◌}
use borrow.Author.Rules.{rules}
use Rattle.marks.proofs.Tight.{due_wanted, due_leads}
use Rattle.access.proofs.Fronts.{marks_region}
use Rattle.access.proofs.toward.is_due.Goals as goal

pub returns-then-has : goal.returns-then-has
returns-then-has c = due_wanted _ _ _ _ _ _ (search rules) (sym c.has.ensures ∙ c.if-has.true)

pub returns : goal.returns
returns c =
    let a = c.args in
    rw (marks_region a.n a.work.now) at c.leads.ensures ∙
    due_leads _ _ _ _ _ _ (search rules) (sym c.has.ensures ∙ c.if-has.false)
