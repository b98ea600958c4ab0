-- `halves::number` meets its contract: after i turns the first i words are written and the others as they were.
use mathlib.Core.Path.{◌≡◌}
use mathlib.Core.List.{◌++◌, map}
use lib.ListN.{drop}
use Rattle.model.specs.Lists.{up_to}
use Rattle.heap.specs.Words.{own}
use Rattle.heap.proofs.halves.number.Given as goal

abbrev pub invariant-loop-i : goal.invariant-loop-i
invariant-loop-i l = l.s ≡ map own (up_to l.i) ++ drop l.i l.initial.s
