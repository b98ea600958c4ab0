-- `rules::access::lists_gapless` meets its contract. Assumes nothing.
use Rattle.rules.proofs.AccessLayout.{gapless_beyond, lists_all, list_unfit, list_fit, fit_count}
use Rattle.theory.specs.RangeLaws.{gapless_end}
use native.Mathlib.Omega.{arith}
use mathlib.Core.Path.{sym, ◌∙◌}
use Rattle.rules.proofs.access.lists_gapless.Goals as goal

pub returns-then-b-at : goal.returns-then-b-at
returns-then-b-at c = sym (gapless_beyond _ _ _ c.if-b-at.true)

pub loop-u-init : goal.loop-u-init
loop-u-init c = (omega arith, omega arith, lists_all _ _)

pub returns-then-not-list_fits : goal.returns-then-not-list_fits
returns-then-not-list_fits c = sym (c.loop-u.invariant.2 ∙ list_unfit _ _ _ _ c.loop-u-test.true
    (sym c.list_fits.ensures ∙ c.if-not-list_fits.true))

pub size_at-at-requires : goal.size_at-at-requires
size_at-at-requires c = fit_count _ _ _ (sym c.list_fits.ensures ∙ c.if-not-list_fits.false)

pub overflow_add-at : goal.overflow_add-at
overflow_add-at c = omega (
  arith,
  (list_fit _ _ _ _ c.loop-u-test.true
      (sym c.list_fits.ensures ∙ c.if-not-list_fits.false) _ c.size_at-at.ensures).0,
)

pub loop-u-preserved : goal.loop-u-preserved
loop-u-preserved c =
    let f = list_fit _ _ _ _ c.loop-u-test.true (sym c.list_fits.ensures ∙ c.if-not-list_fits.false) _
    c.size_at-at.ensures in
    (f.0, c.loop-u.invariant.1, c.loop-u.invariant.2 ∙ f.1)

pub returns : goal.returns
returns c = sym (c.loop-u.invariant.2 ∙ gapless_end _ _ _ _ _ c.loop-u-test.false)
