-- `halves::strip` meets its contract: after i turns the first i words are stripped and the others as they were.
use mathlib.Core.Path.{◌≡◌}
use mathlib.Core.List.{◌++◌, map}
use lib.ListN.{take, drop}
use Rattle.heap.specs.Words.{low}
use Rattle.heap.proofs.halves.strip.Given as goal

abbrev pub invariant-loop-x : goal.invariant-loop-x
invariant-loop-x l = l.s ≡ map low (take l.x-index l.initial.s) ++ drop l.x-index l.initial.s
