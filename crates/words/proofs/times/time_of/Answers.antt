-- `times::time_of` meets its contract: the seconds and the hops, as a key.
use native.Mathlib.Omega.{arith}
use mathlib.Core.Path.{◌≡◌, refl, sym, ◌∙◌}
use Rattle.words.proofs.TimeLaws.{time_at}
use Rattle.words.specs.Times.{time}
use Rattle.words.proofs.times.time_of.Goals as goal

pub returns : goal.returns
unfolding time
returns c =
    let a = c.args in
    let e : c.key_of.result ≡ time a.n a.work.now a.v = c.key_of.ensures ∙ rw c.half_of.ensures.0 refl in (
      e,
      e ∙ sym (time_at a.n a.work.now a.v c.requires.1),
      omega (arith, c.key_of.ensures, c.half_of.ensures.1, c.type_inv.work a.v),
    )
