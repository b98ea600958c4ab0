-- `bits::insert` meets its contract: the words are those of the set with v, and so its members are.
use borrow.Author.Rules.{rules}
use native.Mathlib.Nat.{zero-add}
use mathlib.Core.Path.{◌≡◌}
use Rattle.bitset.specs.Bits.{insert_in}
use Rattle.bitset.proofs.Members.{members}
use Rattle.bitset.proofs.bits.insert.Goals as goal

pub returns : goal.returns
returns c =
    let a = c.args in
    let e : _ ≡ insert_in a.s.now a.v = rw zero-add at c.insert_at.ensures in
    record { words = e; members = λ w. rw e (members a.s.now a.v (search rules) w) }
