-- `sift::sift` meets its contract: what holds when so many levels are passed.
use Rattle.std.proofs.Common.{arith}
use Rattle.heap.proofs.SiftLaws.{sifting_first, sifting_turn, sifting_stop, sifting_end}
use Rattle.heap.proofs.sift.sift.Goals as goal

pub loop-level-init : goal.loop-level-init
loop-level-init g c =
    let h = c.requires.begins in
    sifting_first _ _ _ _ _ _ _ h.0 h.3 h.2

pub returns-then-r-i : goal.returns-then-r-i
returns-then-r-i g c = sifting_stop _ _ _ _ _ _ _ _ _ _ c.loop-level.invariant _ _ c.level-r.ensures c.if-r-i.true

pub loop-level-preserved : goal.loop-level-preserved
loop-level-preserved g c =
    sifting_turn _ _ _ _ _ _ _ _ _ _ c.loop-level.invariant c.requires.turns (omega (arith, c.loop-level-test.true)) _ _ c.level-r.ensures c.if-r-i.false

pub returns : goal.returns
returns g c = sifting_end _ _ _ _ _ _ _ _ _ _ c.loop-level.invariant c.requires.ends (omega (arith, c.loop-level-test.false))
