-- `rounds::finish` meets its contract: the words of the search come back with the plain order.
use borrow.Author.Rules.{rules}
use Rattle.search.proofs.Fronts.{finished}
use Rattle.search.proofs.rounds.finish.Goals as goal

pub returns : goal.returns
returns c =
    let a = c.args in
    let x = finished a.n a.work.now c.plain_order.new.work (search rules) (rw c.search_words-m.ensures at c.plain_order.auto.work)
    a.e _ _ (rw c.search_words-m.ensures at c.plain_order.ensures.times) (rw c.search_words-m.ensures at c.plain_order.ensures.order) in
    record { times = rw c.search_words-m.ensures x.0; order = rw c.search_words-m.ensures x.1; others = rw c.search_words-m.ensures x.2 }
