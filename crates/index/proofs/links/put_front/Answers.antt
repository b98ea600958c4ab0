-- `links::put_front` meets its contract: the two numbers that are written list the entry.
use mathlib.Core.Path.{refl}
use Rattle.index.proofs.ByLinks.{linked_at}
use borrow.Author.Rules.{rules}
use Rattle.index.proofs.links.put_front.Goals as goal

pub returns : goal.returns
returns c =
    let a = c.args in
    linked_at a.ix.now _ _ a.n a.k a.x _ _ c.half_of-h.ensures
    c.put_half.ensures c.put_half-2.ensures (search rules) (search rules)
    (search rules) (search rules) refl c.requires.growing
