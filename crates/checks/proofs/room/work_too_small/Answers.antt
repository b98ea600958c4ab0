-- `room::work_too_small` meets its contract.
use Rattle.checks.proofs.RulesKept.{too_few}
use Rattle.theory.specs.Sound.{node_bytes}
use Rattle.theory.specs.Passed.{all_shaped}
use native.Mathlib.Omega.{arith}
use Rattle.checks.proofs.room.work_too_small.Goals as goal

pub overflow_mul-result : goal.overflow_mul-result
overflow_mul-result c = omega (arith, c.node_count.ensures, (node_bytes c.args.o.now (all_shaped _ c.requires).sound).0)

pub returns : goal.returns
returns c = too_few _ _ c.node_count.ensures _
