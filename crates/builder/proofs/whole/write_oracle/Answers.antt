-- `builder::whole::write_oracle` meets its contract. Assumes nothing.
use borrow.Author.Rules.{rules}
use Rattle.builder.proofs.Joins.{sizes_fit, front_room, back_room, whole_written}
use Rattle.builder.proofs.whole.write_oracle.Goals as goal

pub head_sizes-sizes-requires : goal.head_sizes-sizes-requires
head_sizes-sizes-requires c =
    let a = c.args in
    sizes_fit a.network.now a.ground.now.nodes.now a.ground.now.edges.now a.dv a.t a.a c.requires.planned.1 c.requires.a_in_bounds.1

pub put_front-at-requires : goal.put_front-at-requires
put_front-at-requires c =
    let a = c.args in
    front_room a.network.now a.ground.now.nodes.now a.ground.now.edges.now a.dv a.t a.a c.requires.planned.1 c.requires.a_in_bounds.1 _ c.head_sizes-sizes.ensures _
    c.requires.a_in_bounds.0

pub put_back-requires : goal.put_back-requires
put_back-requires c =
    let a = c.args in
    let r = back_room a.network.now a.ground.now.nodes.now a.ground.now.edges.now a.dv a.t a.a c.requires.planned.1 c.requires.a_in_bounds.1 a.out.now _ _ _
    c.head_sizes-sizes.ensures c.put_front-at.ensures c.requires.a_in_bounds.0 in
    (c.requires.planned.0, search rules, r.1)

pub returns : goal.returns
returns c =
    let a = c.args in record {
      bytes = whole_written a.network.now a.ground.now.nodes.now a.ground.now.edges.now a.dv a.t a.a c.requires.planned.1 c.requires.a_in_bounds.1 a.out.now _ _ _ _ _
          c.head_sizes-sizes.ensures
          c.put_front-at.ensures c.requires.a_in_bounds.0 c.put_back.ensures.bytes;
      others = c.put_back.ensures.others;
    }
