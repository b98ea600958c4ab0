-- `builder::sizes::lists_size` meets its contract. Assumes nothing.
use native.Mathlib.Omega.{arith}
use borrow.Author.Rules.{rules}
use Rattle.builder.proofs.Sums.{sum_all, sum_step, sum_end}
use Rattle.builder.proofs.sizes.lists_size.Goals as goal

pub loop-v-init : goal.loop-v-init
loop-v-init c = (search rules, search rules, omega (arith, sum_all c.args.counts.now c.args.n))

pub overflow_add-sum : goal.overflow_add-sum
overflow_add-sum c = omega (
  arith,
  c.list_size-sum.ensures,
  c.requires.2 c.loop-v.v
      c.loop-v-test.true,
)

pub loop-v-preserved : goal.loop-v-preserved
loop-v-preserved c = (
  search rules,
  omega (arith, c.list_size-sum.ensures, c.requires.2 c.loop-v.v c.loop-v-test.true),
  omega (arith, c.list_size-sum.ensures, sum_step c.args.counts.now c.args.n c.loop-v.v c.loop-v-test.true, c.loop-v.invariant.2),
)

pub returns : goal.returns
returns c =
    let a = c.args in
    (omega (arith, c.loop-v.invariant.2, sum_end a.counts.now a.n c.loop-v.v c.loop-v-test.false), omega arith)
