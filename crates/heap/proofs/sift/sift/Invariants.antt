-- `sift::sift` meets its contract: what holds when so many levels are passed.
use Rattle.heap.proofs.SiftLaws.{Sifting}
use Rattle.heap.proofs.sift.sift.Given as goal

abbrev pub invariant-loop-level : goal.invariant-loop-level
invariant-loop-level g l = Sifting l.n l.k g.W.Way.on g.W.Way.partly g.W.Way.stands l.from l.initial.w l.w l.i l._level
