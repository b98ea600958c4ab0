-- `regions::blank` meets its contract: ones over the seconds, and over the hops.
use Rattle.search.proofs.Begins.{blank_times}
use borrow.Author.Rules.{rules}
use Rattle.search.proofs.regions.blank.Goals as goal

pub returns : goal.returns
returns c =
    let a = c.args in
    rw c.queue_words-m.ensures (blank_times a.n c.requires.0 a.work.now c.fill.new.self c.fill-2.new.self c.requires.2
    (c.fill.ensures.after (search rules)) (rw c.queue_words-m.ensures at (c.fill-2.ensures.after (search rules))))
