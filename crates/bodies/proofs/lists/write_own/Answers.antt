-- `bodies::lists::write_own` meets its contract. Assumes nothing.
use borrow.Author.Rules.{rules}
use Rattle.bodies.proofs.lists.write_own.Goals as goal

pub write_list-requires : goal.write_list-requires
write_list-requires c =
    let own = c.region.ensures.0 in
    record { n_le_max_nodes = (c.requires.0, search rules, search rules, search rules); among = (rw (own, c.region-2.ensures.0) c.requires.2, rw own c.requires.3) }

pub returns : goal.returns
returns c =
    let own = c.region.ensures.0 in
    rw (own, c.region-2.ensures.0) at c.write_list.ensures
