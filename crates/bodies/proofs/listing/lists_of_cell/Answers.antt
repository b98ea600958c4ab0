-- `bodies::listing::lists_of_cell` meets its contract. Assumes nothing.
use native.Mathlib.Omega.{arith}
use mathlib.Core.Path.{refl, ◌∙◌}
use borrow.Author.Rules.{rules}
use Rattle.bodies.proofs.CellLists.{working_next, based_still, cell_none, cell_all}
use Rattle.bodies.proofs.listing.lists_of_cell.Goals as goal

pub own_wanted-left-requires : goal.own_wanted-left-requires
own_wanted-left-requires c = record { on_ground = (c.requires.1, omega (arith, c.requires.0.words)); indexed_edges = c.requires.0.roads }

pub cell_square-square-requires : goal.cell_square-square-requires
cell_square-square-requires c = (c.args.ground.now.keeps.0.over, rw (← c.args.ground.now.keeps.1) c.requires.1)

pub loop-v-init : goal.loop-v-init
loop-v-init c =
    let a = c.args in
    let b = based_still a.ground.now.nodes.now a.ground.now.edges.now a.ground.now.grid a.ground.now.n a.work.now _ c.requires.0 (search rules) c.own_wanted-left.ensures.others in (
      refl,
      record { based = b; owns = c.own_wanted-left.ensures.members; sought = c.own_wanted-left.ensures.sought; kept = refl; others = refl },
      cell_none a.ground.now.nodes.now a.ground.now.edges.now a.ground.now.grid a.ground.now.n a.body.now a.u c.requires.2,
    )

pub list_beside-requires : goal.list_beside-requires
list_beside-requires c =
    let g = c.loop-v.invariant.1 in
    record { based = (g.based, search rules, search rules, c.cell_square-square.ensures); work_value = (g.owns, g.sought); listed_to = c.loop-v.invariant.2 }

pub loop-v-preserved : goal.loop-v-preserved
loop-v-preserved c =
    let a = c.args in (
      search rules,
      working_next a.ground.now.nodes.now a.ground.now.edges.now a.ground.now.grid a.ground.now.n a.u _ _ _ _
          c.loop-v.invariant.1 (search rules) c.list_beside.ensures.others,
      c.list_beside.ensures.lists,
    )

pub shape_of-work : goal.shape_of-work
shape_of-work c = omega (arith, c.loop-v.invariant.1.kept)

pub returns : goal.returns
returns c =
    let a = c.args in record { lists = cell_all a.ground.now.nodes.now a.ground.now.edges.now a.ground.now.grid a.ground.now.n _ a.u _ c.loop-v-test.false c.loop-v.invariant.2; others = c.loop-v.invariant.1.others ∙ c.own_wanted-left.ensures.others }
