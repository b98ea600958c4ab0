-- `bits::insert_at` meets its contract: the words are those of the set with v.
use Rattle.bitset.proofs.Members.{settle_same}
use Rattle.bitset.proofs.bits.insert_at.Goals as goal

pub returns : goal.returns
returns c =
    let a = c.args in settle_same a.s.now a.a a.v
