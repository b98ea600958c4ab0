-- `regions::region_at` meets its contract: k * n, or the words of the sets before it.
use native.Mathlib.Omega.{arith}
use Rattle.words.proofs.Windows.{at_words, at_sets}
use Rattle.words.proofs.regions.region_at.Goals as goal

pub overflow_mul-result : goal.overflow_mul-result
overflow_mul-result c = omega (arith, c.requires, at_words c.args.n c.args.k (omega (arith, c.if-k-lt-MARKS.true)))

pub returns-then-k-lt-MARKS : goal.returns-then-k-lt-MARKS
returns-then-k-lt-MARKS c = at_words c.args.n c.args.k (omega (arith, c.if-k-lt-MARKS.true))

pub queue_words-requires : goal.queue_words-requires
queue_words-requires c = omega (arith, c.requires, at_sets c.args.n c.args.k (omega (arith, c.if-k-lt-MARKS.false)))

pub overflow_mul-result-2 : goal.overflow_mul-result-2
overflow_mul-result-2 c = rw c.set_words.ensures (omega (
  arith,
  c.requires,
  at_sets c.args.n c.args.k
      (omega (arith, c.if-k-lt-MARKS.false)),
))

pub overflow_add-result : goal.overflow_add-result
overflow_add-result c = rw (c.queue_words.ensures, c.set_words.ensures) (omega (
  arith,
  c.requires,
  at_sets c.args.n c.args.k
      (omega (arith, c.if-k-lt-MARKS.false)),
))

pub returns : goal.returns
returns c = rw (c.queue_words.ensures, c.set_words.ensures)
    (at_sets c.args.n c.args.k (omega (arith, c.if-k-lt-MARKS.false)))
