-- `sift::lesser` meets its contract: the lesser of two, or the only one.
use native.Mathlib.Omega.{arith}
use Rattle.heap.proofs.SiftLaws.{lesser_left, lesser_of}
use Rattle.heap.proofs.sift.lesser.Goals as goal

pub returns-then-b-k : goal.returns-then-b-k
returns-then-b-k c =
    let a = c.args in
    record { some = λ _. lesser_of a.n a.k a.i a.w.now c.requires.0 c.requires.1 _ c.less.ensures.0 c.if-b-k.true; none = λ l. omega (arith, c.if-b-k.true) }

pub returns : goal.returns
returns c =
    let a = c.args in
    record { some = λ h. lesser_left a.n a.k a.i a.w.now c.requires.0 c.requires.1 h (λ l. absurd (omega (arith, c.if-b-k.false))); none = λ h. h }
