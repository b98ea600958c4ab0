-- `sift::Sink`'s level meets its contract: three ways out of a level.
use native.Mathlib.Omega.{arith}
use mathlib.Core.Path.{sym, ◌∙◌}
use borrow.Author.Tests.{ltb-true, ltb-false}
use Rattle.heap.proofs.SiftLaws.{fall_leaf, fall_stop, fall_move}
use Rattle.heap.proofs.sift.SinkWay.level.Goals as goal

pub returns-then-c-k : goal.returns-then-c-k
returns-then-c-k c =
    let a = c.args in
    fall_leaf a.n a.k a.i a.w.now c.requires.0 c.requires.1 c.requires.3 (c.lesser-c.ensures.none c.if-c-k.true)

pub is_sooner-requires : goal.is_sooner-requires
is_sooner-requires c =
    let q = c.lesser-c.ensures.some (omega (arith, c.if-c-k.false)) in
    let b = q.below in
    let d = q.inside in
    (c.requires.0, omega arith, omega arith)

pub returns-then-not-is_sooner : goal.returns-then-not-is_sooner
returns-then-not-is_sooner c =
    let a = c.args in
    fall_stop a.n a.k a.i a.w.now c.requires.0 c.requires.1 c.requires.3 _ (c.lesser-c.ensures.some
    (omega (arith, c.if-c-k.false)))
    (ltb-false _ _ (sym c.is_sooner.ensures ∙ c.if-not-is_sooner.true))

pub swap-requires : goal.swap-requires
swap-requires c =
    let q = c.lesser-c.ensures.some
    (omega (arith, c.if-c-k.false)) in
    let b = q.below in
    let d = q.inside in
    (c.requires.0, omega arith, omega arith)

pub returns : goal.returns
returns c =
    let a = c.args in
    fall_move a.n a.k a.i a.w.now c.requires.0 c.requires.1 c.requires.3 _
    (c.lesser-c.ensures.some
    (omega (arith, c.if-c-k.false)))
    (ltb-true _ _ (sym c.is_sooner.ensures ∙ c.if-not-is_sooner.false)) _
    c.swap.ensures
