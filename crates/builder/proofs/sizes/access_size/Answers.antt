-- `builder::sizes::access_size` meets its contract. Assumes nothing.
use native.Mathlib.Omega.{arith}
use Rattle.builder.proofs.sizes.access_size.Goals as goal

pub lists_size-requires : goal.lists_size-requires
lists_size-requires c = rw c.counts.ensures c.requires.1

pub overflow_add-result : goal.overflow_add-result
overflow_add-result c = omega (arith, c.lists_size.ensures.1, c.requires.1.0)

pub returns : goal.returns
returns c = rw (c.lists_size.ensures.0, c.counts.ensures)
