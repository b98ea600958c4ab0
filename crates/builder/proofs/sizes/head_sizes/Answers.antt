-- `builder::sizes::head_sizes` meets its contract. Assumes nothing.
use native.Mathlib.Omega.{arith}
use mathlib.Core.Path.{refl}
use Rattle.model.specs.Lists.{total}
use Rattle.builder.specs.Plan.{sizes_in}
use Rattle.builder.proofs.sizes.head_sizes.Goals as goal

pub overflow_cast-result : goal.overflow_cast-result
unfolding sizes_in total
overflow_cast-result c = omega arith

pub overflow_cast-result-2 : goal.overflow_cast-result-2
unfolding sizes_in total
overflow_cast-result-2 c = omega arith

pub overflow_mul-result : goal.overflow_mul-result
unfolding sizes_in total
overflow_mul-result c = omega arith

pub overflow_cast-result-4 : goal.overflow_cast-result-4
unfolding sizes_in total
overflow_cast-result-4 c = omega arith

pub overflow_cast-result-5 : goal.overflow_cast-result-5
unfolding sizes_in total
overflow_cast-result-5 c = omega arith

pub overflow_mul-result-2 : goal.overflow_mul-result-2
unfolding sizes_in total
overflow_mul-result-2 c = omega arith

pub overflow_mul-result-3 : goal.overflow_mul-result-3
unfolding sizes_in total
overflow_mul-result-3 c = omega arith

pub overflow_cast-result-6 : goal.overflow_cast-result-6
unfolding sizes_in total
overflow_cast-result-6 c = omega arith

pub returns : goal.returns
unfolding sizes_in
returns c = refl
