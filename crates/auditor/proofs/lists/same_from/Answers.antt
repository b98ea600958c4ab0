-- `lists::same_from` meets its contract.
use mathlib.Core.Path.{◌∙◌}
use borrow.Author.Rules.{rules}
use Rattle.auditor.proofs.Behind.{equal_both}
use Rattle.passes.proofs.Seeking.{among_later}
use Rattle.auditor.proofs.lists.same_from.Goals as goal

pub search_own-requires : goal.search_own-requires
search_own-requires c = (search rules, search rules, search rules, c.requires.n_le_max_nodes.5, c.requires.indexed_edges)

pub is_list-requires : goal.is_list-requires
is_list-requires c =
    let a = c.args in
    (search rules, search rules, among_later a.n a.work.now _ c.search_own.ensures.others c.requires.n_le_max_nodes.3, search rules)

pub returns : goal.returns
returns c = record { same = c.is_list.ensures ∙ equal_both _ _ _ _ c.list_part.ensures c.search_own.ensures.list; others = c.search_own.ensures.others }
