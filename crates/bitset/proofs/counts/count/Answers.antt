-- `counts::count` meets its contract. The loop's invariant: `members` counts those below v. Assumes nothing.
use Rattle.bitset.proofs.Ranks.{rank_none, rank_next}
use Rattle.bitset.specs.Members.{members_of}
use lib.ListN.{length}
use native.Mathlib.Omega.{arith}
use mathlib.Core.Path.{◌≡◌, sym, ◌∙◌, ap}
use Prim.Native.Nat.{ℕ}
use borrow.Author.Rules.{rules}
use Rattle.bitset.proofs.counts.count.Goals as goal

pub loop-v-init : goal.loop-v-init
loop-v-init c = (search rules, sym (rank_none _))

pub loop-v-preserved : goal.loop-v-preserved
loop-v-preserved c = (search rules, rank_next _ _ _ _ c.loop-v.invariant.1 c.flag_of.ensures.0)

pub returns : goal.returns
returns c =
    let e : c.loop-v.v ≡ c.args.n = omega arith in
    (c.loop-v.invariant.1 ∙ ap (λ (k : ℕ). length (members_of k c.args.set.now)) e, search rules)
