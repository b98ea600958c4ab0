-- `rules::access::access_broken` meets its contract. Assumes nothing.
use Rattle.model.specs.Oracle.{access_broken}
use mathlib.Core.Path.{sym, ◌∙◌}
use Rattle.rules.proofs.access.access_broken.Goals as goal

pub returns-then-not-lists_gapless : goal.returns-then-not-lists_gapless
unfolding access_broken
returns-then-not-lists_gapless c = rw (← c.lists_gapless.ensures) (rw c.if-not-lists_gapless.true)

pub some_list_broken-requires : goal.some_list_broken-requires
some_list_broken-requires c = (c.requires, sym c.lists_gapless.ensures ∙ c.if-not-lists_gapless.false)

pub returns : goal.returns
unfolding access_broken
returns c = rw (← c.lists_gapless.ensures) (rw c.if-not-lists_gapless.false
    c.some_list_broken.ensures)
