-- `regions::offer_in` meets its contract: a time that is no less stays, a settled node keeps its time, and for any other the queue's words come back.
use native.Mathlib.Omega.{arith}
use mathlib.Core.Path.{sym, ◌∙◌}
use borrow.Author.Tests.{ltb-true, ltb-false}
use Rattle.words.specs.Times.{time}
use Rattle.words.proofs.TimeLaws.{time_at}
use Rattle.search.specs.Held.{time_in}
use Rattle.search.proofs.Keeps.{offered_in, not_offered, unsettled_below}
use Rattle.search.proofs.Views.{bit_set, bit_not_set}
use Rattle.search.proofs.regions.offer_in.Goals as goal

pub returns-then-not-lowers : goal.returns-then-not-lowers
returns-then-not-lowers c =
    let a = c.args in
    not_offered a.n a.k a.e a.v a.x a.work.now c.requires.0 (omega (
      arith,
      time_at a.n a.work.now a.v c.requires.1,
      ltb-false a.x (time a.n a.work.now a.v) (sym c.lowers.ensures.less ∙ c.if-not-lowers.true),
    ))

pub returns-then-contains : goal.returns-then-contains
returns-then-contains c =
    let a = c.args in
    not_offered a.n a.k a.e a.v a.x a.work.now c.requires.0
    (c.requires.2 (omega (
      arith,
      bit_set a.n a.work.now a.v c.requires.1
          (rw c.queue_words-m.ensures at (sym c.contains.ensures ∙ c.if-contains.true)),
    )))

pub offer-requires : goal.offer-requires
offer-requires c =
    let a = c.args in
    let lowered = c.if-not-lowers.false in
    let less = ltb-true a.x (time a.n a.work.now a.v)
    (sym c.lowers.ensures.less ∙ lowered) in (
      rw c.queue_words-m.ensures c.requires.0.queue,
      c.requires.1,
      rw c.queue_words-m.ensures (unsettled_below a.n a.k a.e a.v a.work.now c.requires.0 c.requires.1
          (bit_not_set a.n a.work.now a.v c.requires.1 (rw c.queue_words-m.ensures at (sym c.contains.ensures ∙ c.if-contains.false)))),
      rw c.queue_words-m.ensures (omega (arith, less, time_at a.n a.work.now a.v c.requires.1, time_in a.n a.work.now c.requires.0.two a.v c.requires.1)),
      c.lowers.ensures.small lowered,
    )

pub returns : goal.returns
returns c =
    let a = c.args in
    rw c.queue_words-m.ensures (offered_in a.n a.k a.e a.work.now c.offer.new.w
    c.requires.0
    (rw c.queue_words-m.ensures at c.offer.auto.w) a.v a.x _
    (rw c.queue_words-m.ensures at c.offer.ensures))
