-- `times::wages_of` meets its contract.
use native.Mathlib.Omega.{arith}
use mathlib.Core.Path.{refl}
use Rattle.wages.proofs.Results.{wages_short, wages_whole}
use Rattle.wages.proofs.times.wages_of.Goals as goal

pub overflow_mul-size : goal.overflow_mul-size
overflow_mul-size c = omega (arith, c.leg_count.ensures, c.requires.1.few)

pub overflow_add-size : goal.overflow_add-size
overflow_add-size c = omega (arith, c.leg_count.ensures, c.requires.1.few)

pub returns-then-out-size : goal.returns-then-out-size
returns-then-out-size c =
    let a = c.args in
    record { given = wages_short a.o.now a.legs.now _ (omega (arith, c.leg_count.ensures)) _ c.if-out-size.true; others = refl }

pub write_wages-requires : goal.write_wages-requires
write_wages-requires c = (c.requires.0, c.requires.1, omega (arith, c.leg_count.ensures, c.if-out-size.false))

pub returns : goal.returns
returns c =
    let a = c.args in
    record { given = wages_whole a.o.now a.legs.now _ (omega (arith, c.leg_count.ensures)) _ c.if-out-size.false c.write_wages.ensures.bytes; others = c.write_wages.ensures.others }
