-- `sift::Rise`'s level meets its contract: three ways out of a level.
use mathlib.Core.Path.{sym, ◌∙◌}
use borrow.Author.Tests.{ltb-true, ltb-false}
use Rattle.heap.proofs.SiftLaws.{rise_root, rise_stop, rise_move}
use Rattle.heap.proofs.sift.RiseWay.level.Goals as goal

pub returns-then-i-eq0 : goal.returns-then-i-eq0
returns-then-i-eq0 c =
    let a = c.args in
    rise_root a.n a.k a.i a.w.now c.requires.0 c.requires.1 c.requires.2.1.0 c.requires.3 c.if-i-eq0.true

pub returns-then-not-is_sooner : goal.returns-then-not-is_sooner
returns-then-not-is_sooner c =
    let a = c.args in
    rise_stop a.n a.k a.i a.w.now c.requires.0 c.requires.1 c.requires.2.1.0 c.requires.3 c.if-i-eq0.false
    (ltb-false _ _ (sym c.is_sooner.ensures ∙ c.if-not-is_sooner.true))

pub returns : goal.returns
returns c =
    let a = c.args in
    rise_move a.n a.k a.i a.w.now c.requires.0 c.requires.1 c.requires.2.1.0 c.requires.3
    c.if-i-eq0.false
    (ltb-true _ _ (sym c.is_sooner.ensures ∙ c.if-not-is_sooner.false)) _
    c.swap.ensures
