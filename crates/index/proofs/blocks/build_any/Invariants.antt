-- `blocks::build_any` meets its contract: the first blocks that fit.
use mathlib.Core.Path.{◌≡◌}
use lib.ListN.{length}
use Rattle.index.proofs.blocks.build_any.Given as goal

abbrev pub invariant-loop-doublings : goal.invariant-loop-doublings
invariant-loop-doublings l = length l.ix ≡ length l.initial.ix
