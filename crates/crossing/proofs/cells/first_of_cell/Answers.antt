-- `cells::first_of_cell` meets its contract: the answer is that for the nodes from v on.
use mathlib.Core.Path.{sym, ◌∙◌}
use Rattle.crossing.proofs.Alike.{none_first, none_found, none_next, none_last}
use Rattle.crossing.proofs.cells.first_of_cell.Goals as goal

pub loop-v-init : goal.loop-v-init
loop-v-init c = λ grid q. none_first _ _

pub returns-then-beside : goal.returns-then-beside
returns-then-beside c = sym (c.loop-v.invariant _ c.cell_square-square.ensures ∙ none_found _ _ _ c.loop-v-test.true
    (sym (c.beside.ensures _ _ c.cell_square-square.ensures) ∙ c.if-beside.true))

pub loop-v-preserved : goal.loop-v-preserved
loop-v-preserved c = λ grid q. c.loop-v.invariant grid q ∙ none_next _ _ _ c.loop-v-test.true
    (sym (c.beside.ensures grid _ q) ∙ c.if-beside.false)

pub returns : goal.returns
returns c = sym (c.loop-v.invariant _ c.cell_square-square.ensures ∙ none_last _ _ _ c.loop-v-test.false)
