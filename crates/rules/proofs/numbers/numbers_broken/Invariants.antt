-- `numbers_broken` meets its contract. The loop's invariant: the answer is that for the numbers from i on, `least` the least that may come next.
use mathlib.Core.Path.{◌≡◌}
use Rattle.model.specs.Network.{numbers_broken}
use Rattle.rules.proofs.Climb.{number_at, numbers_left}
use Rattle.rules.proofs.numbers.numbers_broken.Given as goal

abbrev pub invariant-loop-i : goal.invariant-loop-i
invariant-loop-i l = numbers_broken l.limit l.b ≡ numbers_left l.limit (number_at l.b) l.i-end l.least l.i
