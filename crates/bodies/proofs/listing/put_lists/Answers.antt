-- `bodies::listing::put_lists` meets its contract. Assumes nothing.
use mathlib.Core.Path.{refl, ◌∙◌}
use borrow.Author.Rules.{rules}
use Rattle.bodies.proofs.CellLists.{based_still, listed_all}
use Rattle.bodies.proofs.listing.put_lists.Goals as goal

pub loop-u-init : goal.loop-u-init
loop-u-init c = (refl, refl, c.requires.0, refl, c.requires.1)

pub lists_at-requires : goal.lists_at-requires
lists_at-requires c = (c.loop-u.invariant.2, search rules, c.loop-u.invariant.4)

pub loop-u-preserved : goal.loop-u-preserved
loop-u-preserved c =
    let a = c.args in (
      search rules,
      search rules,
      based_still a.ground.now.nodes.now a.ground.now.edges.now a.ground.now.grid a.ground.now.n _ _ c.loop-u.invariant.2 (search rules)
          c.lists_at.ensures.others,
      c.lists_at.ensures.others ∙ c.loop-u.invariant.3,
      c.lists_at.ensures.lists,
    )

pub returns : goal.returns
returns c =
    let a = c.args in
    record { bytes = listed_all a.ground.now.nodes.now a.ground.now.edges.now a.ground.now.grid a.ground.now.n _ _ c.loop-u-test.false c.loop-u.invariant.4; others = c.loop-u.invariant.3 }
