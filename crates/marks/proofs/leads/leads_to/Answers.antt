-- `leads::leads_to` meets its contract: the arc leads to an unmarked node, or the sums decide.
use mathlib.Core.Path.{sym, ◌∙◌}
use Rattle.marks.proofs.Tight.{arc_unmarked, arc_marked}
use Rattle.marks.proofs.leads.leads_to.Goals as goal

pub returns-else-contains : goal.returns-else-contains
returns-else-contains c =
    let a = c.args in
    c.if-contains.false ∙ arc_unmarked a.work.now a.n a.v a.to a.cost c.requires.3 _ c.queue_words-m.ensures
    (sym c.contains.ensures ∙ c.if-contains.false)

pub returns-then-contains : goal.returns-then-contains
returns-then-contains c =
    let a = c.args in
    arc_marked a.work.now a.n a.v a.to a.cost c.requires.3 _ c.queue_words-m.ensures
    (sym c.contains.ensures ∙ c.if-contains.true) _ _
    c.time_of.ensures.1 c.time_of-then-contains.ensures.1
