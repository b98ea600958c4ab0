-- `builder::whole::put_back` meets its contract. Assumes nothing.
use native.Mathlib.Omega.{arith}
use mathlib.Core.Path.{◌∙◌}
use borrow.Author.Rules.{rules}
use Rattle.words.specs.Regions.{region_at, transit, search_words}
use Rattle.builder.proofs.Joins.{transit_room, access_room, table_room, back_written}
use Rattle.words.proofs.Stays.{kept_more}
use Rattle.builder.proofs.whole.put_back.Goals as goal

pub put_transit-lists-requires : goal.put_transit-lists-requires
put_transit-lists-requires c =
    let a = c.args in
    transit_room a.ground.now.nodes.now a.ground.now.edges.now a.ground.now.grid a.ground.now.n a.t a.a a.work.now c.requires.0 a.at _ c.requires.1

pub access_part-table-requires : goal.access_part-table-requires
access_part-table-requires c =
    let a = c.args in
    let all = access_room a.ground.now.nodes.now a.ground.now.edges.now a.ground.now.grid a.ground.now.n a.t a.a a.work.now c.requires.0 a.at _ a.out.now _
    c.put_transit-lists.ensures c.requires.1 (search rules) c.requires.2 in record { based = all.0; a_value = all.1 }

pub table_part-requires : goal.table_part-requires
table_part-requires c =
    let a = c.args in
    let all = table_room a.ground.now.nodes.now a.ground.now.edges.now a.ground.now.grid a.ground.now.n a.t a.a a.work.now c.requires.0 a.at _ a.out.now _
    c.put_transit-lists.ensures c.requires.1 _ (search rules)
    c.access_part-table.ensures.others _ _
    c.access_part-table.ensures.bytes (search rules) in record { n_le_max_nodes = all.0; indexed_edges = all.1 }

pub returns : goal.returns
returns c =
    let a = c.args in
    record {
      bytes = back_written a.ground.now.nodes.now a.ground.now.edges.now a.ground.now.grid a.ground.now.n a.t a.a a.work.now c.requires.0 a.at _ a.out.now _
          c.put_transit-lists.ensures c.requires.1 _ (search rules)
          c.access_part-table.ensures.others _ _
          c.access_part-table.ensures.bytes (search rules)
          c.table_part.ensures.bytes;
      others = kept_more (search_words a.ground.now.n) (region_at a.ground.now.n transit) _ _ (omega arith) c.table_part.ensures.others
          ∙ c.access_part-table.ensures.others;
    }
