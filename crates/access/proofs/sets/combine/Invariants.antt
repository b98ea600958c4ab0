-- `sets::combine` meets its contract: the first i words of `into` are made, and the regions a and b stay.
use Rattle.access.proofs.Filled.{Filling, of_both}
use Rattle.access.proofs.sets.combine.Given as goal

abbrev pub invariant-loop-i : goal.invariant-loop-i
invariant-loop-i g l = Filling (of_both (λ x y r. goal.F-post g l.word x y r) l.n l.a l.b l.into l.initial.work) l.n l.into l.initial.work l.i l.work
