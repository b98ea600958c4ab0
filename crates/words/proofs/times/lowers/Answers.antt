-- `times::lowers` meets its contract: the seconds decide, or else the hops.
use Prim.Native.Nat.{ℕ, ◌<◌}
use native.Mathlib.Omega.{arith}
use lib.ListN.{get_or}
use Rattle.words.proofs.TimeLaws.{lowers_seconds, lowers_hops, lowers_small}
use Rattle.words.proofs.times.lowers.Goals as goal

pub overflow_cast-b : goal.overflow_cast-b
overflow_cast-b c = omega (arith, c.type_inv.work c.args.v)

pub returns-then-a-b : goal.returns-then-a-b
returns-then-a-b c =
    let a = c.args in
    let known : (i : ℕ) → get_or a.work.now i 0 < 4294967296 = λ i. omega (arith, c.type_inv.work i) in
    let e = lowers_seconds a.n a.work.now known a.v a.x c.if-a-b.true in
    record { less = e; small = lowers_small a.n a.work.now known a.v a.x _ e }

pub returns : goal.returns
returns c =
    let a = c.args in
    let known : (i : ℕ) → get_or a.work.now i 0 < 4294967296 = λ i. omega (arith, c.type_inv.work i) in
    let e = lowers_hops a.n a.work.now known a.v a.x c.if-a-b.false in
    record { less = rw c.half_of.ensures.0 e; small = rw c.half_of.ensures.0 (lowers_small a.n a.work.now known a.v a.x _ e) }
