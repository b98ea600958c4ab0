-- `regions::put_count` meets its contract.
use borrow.Author.Rules.{rules}
use native.Mathlib.Omega.{arith}
use Rattle.words.proofs.Windows.{counts_fit}
use Rattle.words.proofs.regions.put_count.Goals as goal

pub put_half-requires : goal.put_half-requires
put_half-requires c =
    let a = c.args in
    let h = counts_fit a.n (omega arith) in
    search rules

pub returns : goal.returns
returns c = rw c.region_at.ensures at c.put_half.ensures
