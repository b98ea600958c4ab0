-- `answers::way_of` meets its contract.
use Rattle.theory.specs.Passed.{all_shaped}
use Rattle.arcs.proofs.Bodies.{plain}
use Rattle.opened.proofs.WayLaws.{own_searched, way_over_law}
use Rattle.opened.proofs.OpenLaws.{lent}
use Rattle.opened.proofs.answers.way_of.Goals as goal

pub write_way_to-requires : goal.write_way_to-requires
write_way_to-requires c =
    let k = lent _ _ c.requires.0 _ _ c.oracle_body-edges.ensures
    c.node_count.ensures in
    (k.few, k.below _ c.requires.1, k.below _ c.requires.2, k.room, plain _ _ _ k.roads)

pub returns : goal.returns
returns c =
    let a = c.args in
    let same = way_over_law _ _ _ (own_searched a.o.now (all_shaped _ c.requires.0.shape)) a.t c.requires.2 a.s in record { given = rw (← same, ← c.oracle_body-edges.ensures, ← c.node_count.ensures) c.write_way_to.ensures.given; others = rw c.node_count.ensures at c.write_way_to.ensures.others }
