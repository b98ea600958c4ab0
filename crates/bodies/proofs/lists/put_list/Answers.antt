-- `bodies::lists::put_list` meets its contract. Assumes nothing.
use native.Mathlib.Omega.{arith}
use mathlib.Core.Path.{ap, ◌∙◌}
use borrow.Author.Rules.{rules}
use Rattle.model.specs.Bytes.{Bytes, splice}
use Rattle.model.specs.Oracle.{list_size, list_start}
use Rattle.passes.proofs.Seeking.{sought_later, among_later}
use Rattle.passes.proofs.Listing.{members_few}
use Rattle.bodies.proofs.lists.put_list.Goals as goal

pub search_own-requires : goal.search_own-requires
search_own-requires c = (search rules, search rules, search rules, c.requires.n_le_max_nodes.4, c.requires.indexed_edges)

pub list_size-size-requires : goal.list_size-size-requires
list_size-size-requires c =
    let a = c.args in
    omega (arith, c.requires.n_le_max_nodes.0, members_few a.n 4 a.work.now, c.requires.n_le_max_nodes.4.count)

pub put_own-requires : goal.put_own-requires
put_own-requires c =
    let a = c.args in
    let e = c.search_own.ensures.others in record {
      n_le_max_nodes = (
        search rules,
        search rules,
        among_later a.n a.work.now _ e c.requires.n_le_max_nodes.3,
        c.list_size-size.ensures ∙ ap list_size (sought_later a.n a.left a.work.now c.requires.n_le_max_nodes.4 _ e).count,
        search rules,
      );
      start_size_in_bounds = (search rules, omega (arith, c.list_size-size.ensures, c.requires.start_size_in_bounds.1));
    }

pub returns : goal.returns
returns c =
    let a = c.args in
    record { bytes = c.put_own.ensures ∙ ap (λ (l : Bytes). splice (list_start a.body.now a.v) l a.body.now) c.search_own.ensures.list; others = c.search_own.ensures.others }
