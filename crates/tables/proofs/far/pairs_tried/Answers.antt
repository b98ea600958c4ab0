-- `far::pairs_tried` meets its contract: two counts of 16 bits have a product of 32.
use native.Mathlib.Omega.{arith}
use Rattle.tables.proofs.Counts.{length_list, product_fits}
use Rattle.tables.proofs.far.pairs_tried.Goals as goal

pub returns : goal.returns
returns c = rw (length_list, length_list, ← c.list_count.ensures.0, ← c.list_count-2.ensures.0)

pub overflow_mul-result : goal.overflow_mul-result
overflow_mul-result c = omega (arith, product_fits _ _ c.list_count.ensures.1 c.list_count-2.ensures.1)
