-- `regions::settle_nearest` meets its contract: the queue's words come back, and then the settled set.
use Rattle.search.proofs.Keeps.{taken_in}
use Rattle.search.proofs.regions.settle_nearest.Goals as goal

pub returns : goal.returns
returns c =
    let a = c.args in
    rw c.queue_words-m.ensures (taken_in a.n a.k a.e a.work.now c.take_nearest-u.new.w
    c.requires.0 (rw c.queue_words-m.ensures at c.take_nearest-u.auto.w)
    c.insert.new.s _
    (rw c.queue_words-m.ensures at c.take_nearest-u.ensures) (rw c.queue_words-m.ensures at c.insert.auto.s) (rw c.queue_words-m.ensures at c.insert.ensures.words))
