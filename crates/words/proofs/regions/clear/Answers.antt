-- `regions::clear` meets its contract: the set that comes back, and the words that were not lent.
use borrow.Author.Rules.{rules}
use Rattle.words.proofs.Windows.{emptied, emptied_only}
use Rattle.words.proofs.regions.clear.Goals as goal

pub returns : goal.returns
returns c =
    let a = c.args in
    let w = a.work.now in record { members = emptied a.n a.k _ _ w c.region_at-a.ensures c.set_words.ensures (search rules) c.fill.new.self c.fill.auto.self (c.fill.ensures.after (λ y e. e)); others = emptied_only a.n a.k _ _ w c.region_at-a.ensures c.set_words.ensures (search rules) c.fill.new.self c.fill.auto.self }
