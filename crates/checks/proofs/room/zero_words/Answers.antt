-- `room::zero_words` meets its contract.
use mathlib.Core.Path.{◌∙◌}
use native.Mathlib.Omega.{arith}
use Rattle.model.specs.Rules.{words_needed}
use Rattle.theory.specs.Sound.{node_bytes}
use Rattle.theory.specs.Passed.{all_shaped}
use Rattle.checks.proofs.AfterCall.{needed}
use Rattle.checks.proofs.room.zero_words.Goals as goal

pub overflow_mul-node_count : goal.overflow_mul-node_count
overflow_mul-node_count c = omega (arith, c.node_count.ensures, (node_bytes _ (all_shaped _ c.requires.0).sound).0)

pub zero_front-requires : goal.zero_front-requires
unfolding words_needed
zero_front-requires c = omega (arith, c.node_count.ensures, c.requires.1)

pub returns : goal.returns
returns c = c.zero_front.ensures ∙ needed _ _ c.node_count.ensures _
