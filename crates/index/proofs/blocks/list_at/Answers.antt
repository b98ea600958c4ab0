-- `blocks::list_at` meets its contract: the block is listed already, or the two words that are written list it.
use borrow.Author.Rules.{rules}
use Rattle.index.proofs.ByBlocks.{was_listed, now_listed}
use Rattle.index.proofs.blocks.list_at.Goals as goal

pub returns-then-has_last : goal.returns-then-has_last
returns-then-has_last c =
    let a = c.args in
    was_listed a.ix.now a.n a.k a.x a.q _ c.next_of-h.ensures.0 c.requires.growing
    (c.has_last.ensures c.if-has_last.true)

pub returns : goal.returns
returns c =
    let a = c.args in
    now_listed a.ix.now a.n a.k a.x a.q _
    c.next_of-h.ensures.0 _ _ _
    c.block_of-s.ensures.0
    c.put_link.ensures c.put_link-2.ensures (search rules) (search rules)
    (search rules) (search rules) c.requires.growing
