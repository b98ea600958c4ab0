-- `builder::sizes::whole_size` meets its contract. Assumes nothing.
use native.Mathlib.Omega.{arith}
use Rattle.builder.specs.Plan.{whole_size}
use Rattle.builder.proofs.sizes.whole_size.Goals as goal

pub overflow_add-front : goal.overflow_add-front
unfolding whole_size
overflow_add-front c = omega arith

pub overflow_add-front-2 : goal.overflow_add-front-2
unfolding whole_size
overflow_add-front-2 c = omega arith

pub overflow_mul-result : goal.overflow_mul-result
unfolding whole_size
overflow_mul-result c = omega arith

pub overflow_add-result : goal.overflow_add-result
unfolding whole_size
overflow_add-result c = omega arith

pub overflow_add-result-2 : goal.overflow_add-result-2
unfolding whole_size
overflow_add-result-2 c = omega arith

pub overflow_mul-result-2 : goal.overflow_mul-result-2
unfolding whole_size
overflow_mul-result-2 c = omega arith

pub overflow_mul-result-3 : goal.overflow_mul-result-3
unfolding whole_size
overflow_mul-result-3 c = omega arith

pub overflow_add-result-3 : goal.overflow_add-result-3
unfolding whole_size
overflow_add-result-3 c = omega arith

pub returns : goal.returns
unfolding whole_size
returns c = omega arith
