-- `regions::region` meets its contract.
use native.Mathlib.Omega.{arith}
use Rattle.words.proofs.Windows.{region_length}
use Rattle.words.proofs.regions.region.Goals as goal

pub returns : goal.returns
returns c =
    let a = c.args in
    let e = rw (c.region_at.ensures, c.set_words.ensures) at c.part.ensures in
    (e, rw e (omega (arith, region_length a.n a.k a.work.now c.requires)))
