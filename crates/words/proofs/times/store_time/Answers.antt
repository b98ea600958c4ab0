-- `times::store_time` meets its contract: the seconds, and then the hops.
use native.Mathlib.Omega.{arith}
use lib.ListN.{length-set}
use Rattle.words.specs.Times.{store}
use Rattle.words.proofs.times.store_time.Goals as goal

pub put_half-requires : goal.put_half-requires
put_half-requires c = simp length-set (omega arith, omega (arith, c.hops_of.ensures.1))

pub shape_of-work : goal.shape_of-work
shape_of-work c = simp length-set at c.put_half.auto.w

pub returns : goal.returns
unfolding store
returns c = rw (← c.seconds_of.ensures, ← c.hops_of.ensures.0)
    c.put_half.ensures
