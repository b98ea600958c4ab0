-- `sets::combine` meets its contract: the first i words of `into` are made, and the regions a and b stay.
use native.Mathlib.Omega.{arith}
use Prim.Native.Nat.{◌<◌}
use Rattle.std.proofs.Common.{of_calls}
use Rattle.bitset.specs.Bits.{set_words}
use Rattle.access.proofs.Filled.{next_of_both}
use Rattle.access.proofs.sets.combine.Goals as goal

pub loop-i-preserved : goal.loop-i-preserved
loop-i-preserved g c =
    let a = c.args in
    let h : c.loop-i.i < set_words a.n = omega (arith, c.set_words-i-end.ensures, c.loop-i-test.true) in
    next_of_both (λ x y r. goal.F-post g a.word x y r) a.n a.a a.b a.into a.work.now c.loop-i.i c.loop-i.work c.loop-i.invariant h c.requires.n_in_bounds.2 _ _ _ _ c.region_at-x.ensures
    c.region_at-y.ensures c.region_at-z.ensures (search of_calls)
