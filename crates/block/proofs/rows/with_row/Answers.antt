-- `rows::with_row` meets its contract: the search before the entries.
use Rattle.opened.proofs.OpenLaws.{opened_kept}
use borrow.Author.Rules.{rules}
use Rattle.block.proofs.rows.with_row.Goals as goal

pub search_near-requires : goal.search_near-requires
search_near-requires c = (c.requires.opened.0, c.requires.opened.1, c.requires.opened.2, c.requires.opened.3)

pub with_entries-requires : goal.with_entries-requires
with_entries-requires c = record { opened = (opened_kept _ _ _ c.requires.opened.0 (search rules) c.search_near.ensures.others, c.requires.opened.2, c.requires.opened.3, c.requires.opened.4); near_times = (c.search_near.ensures.times, c.requires.i_lt_max_names.0, c.requires.i_lt_max_names.1) }

pub returns : goal.returns
returns c = record { keys = c.with_entries.ensures; others = c.search_near.ensures.others }
