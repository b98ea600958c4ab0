-- `rules::access::list_broken` meets its contract. Assumes nothing.
use Rattle.rules.proofs.AccessEntries.{list_read, entries_all, entries_bad, entries_good, entries_end}
use Rattle.model.specs.Oracle.{list_part}
use native.Mathlib.Omega.{arith}
use mathlib.Core.Path.{sym, ◌∙◌}
use Rattle.rules.proofs.access.list_broken.Goals as goal

pub read16-count-requires : goal.read16-count-requires
unfolding list_part
read16-count-requires c = omega arith

pub loop-i-init : goal.loop-i-init
loop-i-init c =
    let r = list_read _ _ _ _ c.list_start-start.ensures c.read16-count.ensures.0 c.requires.1 in
    (c.list_start-start.ensures, r.0, entries_all _ _ _ _ r.1)

pub returns-then-entry_broken : goal.returns-then-entry_broken
returns-then-entry_broken c = sym (c.loop-i.invariant.2 ∙ entries_bad _ _ _ _ _ _ _ c.loop-i-test.true c.loop-i.invariant.0 (sym c.entry_broken.ensures ∙ c.if-entry_broken.true))

pub loop-i-preserved : goal.loop-i-preserved
loop-i-preserved c = (
  c.loop-i.invariant.0,
  c.loop-i.invariant.1,
  c.loop-i.invariant.2 ∙ entries_good _ _ _ _ _ _ _ c.loop-i-test.true c.loop-i.invariant.0
      (sym c.entry_broken.ensures ∙ c.if-entry_broken.false) _ c.read16.ensures.0,
)

pub returns : goal.returns
returns c = sym (c.loop-i.invariant.2 ∙ entries_end _ _ _ _ _ _ c.loop-i-test.false)
