-- `times::is_less` meets its contract: the seconds decide, or else the hops.
use native.Mathlib.Omega.{arith}
use Rattle.words.proofs.TimeLaws.{less_seconds, less_hops}
use Rattle.words.proofs.times.is_less.Goals as goal

pub returns-then-a-b : goal.returns-then-a-b
returns-then-a-b c =
    let a = c.args in
    less_seconds a.n a.work.now (λ i. omega (arith, c.type_inv.work i)) a.u a.v (λ e. c.if-a-b.true e)

pub returns : goal.returns
returns c =
    let a = c.args in
    rw (c.half_of.ensures.0, c.half_of-2.ensures.0)
    (less_hops a.n a.work.now (λ i. omega (arith, c.type_inv.work i)) a.u a.v
    c.if-a-b.false)
