-- `times::write_wages` meets its contract. The loop's invariant: the first i legs are written and tallied, and the oracle stays opened.
use native.Mathlib.Omega.{arith}
use mathlib.Core.Path.{◌≡◌, refl, ◌∙◌}
use Rattle.opened.proofs.OpenLaws.{opened_kept}
use Rattle.wages.specs.Sizes.{length_wages}
use Rattle.wages.proofs.Paying.{paying_start, paying_next, paying_end}
use borrow.Author.Rules.{rules}
use Rattle.wages.proofs.times.write_wages.Goals as goal

pub loop-i-init : goal.loop-i-init
loop-i-init c =
    let a = c.args in
    let size = length_wages a.o.now a.legs.now in
    (c.leg_count-count.ensures, refl, refl, refl, paying_start a.o.now a.legs.now a.out.now (omega (arith, c.requires.2, size)))

pub write_leg-tally-requires : goal.write_leg-tally-requires
write_leg-tally-requires c =
    let few = c.requires.1.few in record { opened = (opened_kept _ _ _ c.requires.0 c.loop-i.invariant.1 c.loop-i.invariant.2, c.requires.1, omega (arith, c.loop-i.invariant.0, c.loop-i-test.true)); time_size_in_bounds = (omega (arith, c.loop-i.invariant.0, c.loop-i.invariant.3, c.requires.2, c.loop-i-test.true), omega (arith, c.loop-i.invariant.0, c.loop-i.invariant.4.few, few, c.loop-i-test.true), omega (arith, c.loop-i.invariant.4.small, c.loop-i.invariant.4.far, few)) }

pub loop-i-preserved : goal.loop-i-preserved
loop-i-preserved c = (
  c.loop-i.invariant.0,
  search rules,
  c.write_leg-tally.ensures.others ∙ c.loop-i.invariant.2,
  search rules,
  paying_next _ _ _ c.requires.1 _ _ _ _ _ (omega (arith, c.loop-i.invariant.0, c.loop-i-test.true)) c.loop-i.invariant.4 c.write_leg-tally.ensures.tally c.write_leg-tally.ensures.bytes,
)

pub write_tally-requires : goal.write_tally-requires
write_tally-requires c = omega (arith, c.loop-i.invariant.3, c.loop-i.invariant.4.far, c.requires.2)

pub returns : goal.returns
returns c =
    let e : c.leg_count-count.result ≡ c.loop-i.i = omega (arith, c.loop-i-test.false) in
    record {
      bytes = paying_end _ _ _ _ _ _ _ (omega (arith, c.loop-i.invariant.0, c.loop-i-test.false)) c.loop-i.invariant.4 (rw e at c.write_tally.ensures);
      others = c.loop-i.invariant.2;
    }
