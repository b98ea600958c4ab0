-- `bodies::listing::lists_at` meets its contract. Assumes nothing.
use mathlib.Core.Path.{refl, sym, ◌∙◌}
use Rattle.bodies.proofs.CellLists.{listed_later}
use Rattle.bodies.proofs.listing.lists_at.Goals as goal

pub returns-else-first_of_cell : goal.returns-else-first_of_cell
returns-else-first_of_cell c =
    let a = c.args in record {
      lists = listed_later a.ground.now.nodes.now a.ground.now.edges.now a.ground.now.grid a.ground.now.n a.body.now a.u
          (sym c.first_of_cell.ensures ∙ c.if-first_of_cell.false) c.requires.2;
      others = refl;
    }
