-- `transit::put_counts` meets its contract: the nodes below v have their counts.
use native.Mathlib.Omega.{arith}
use borrow.Author.Rules.{rules}
use Rattle.passes.proofs.Counting.{first, next, last}
use Rattle.passes.proofs.transit.put_counts.Goals as goal

pub loop-v-init : goal.loop-v-init
loop-v-init c = first _ _ _ _

pub loop-v-preserved : goal.loop-v-preserved
loop-v-preserved c = next _ _ _ _ c.loop-v.v c.loop-v.work c.loop-v.invariant c.loop-v-test.true (omega (arith, c.loop-v.invariant.size)) (search rules) _
    c.put_beside.ensures

pub returns : goal.returns
returns c =
    let all = last _ _ _ _ c.loop-v.v c.loop-v.work c.loop-v.invariant c.loop-v-test.false in record { counted = all.0; others = all.1 }
