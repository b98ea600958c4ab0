-- `ways::way_under_of` meets its contract.
use native.Mathlib.Omega.{arith}
use mathlib.Core.Path.{refl}
use Rattle.sheet.specs.Under.{way_under}
use Rattle.theory.specs.Passed.{all_shaped}
use Rattle.theory.specs.Sound.{node_bytes}
use Rattle.opened.proofs.OpenLaws.{lent}
use Rattle.under.proofs.Networks.{way_is, way_under_itself, noted_stays}
use Rattle.under.proofs.ways.way_under_of.Goals as goal

pub write_way_itself-requires : goal.write_way_itself-requires
write_way_itself-requires c = omega
    (arith, c.requires.opened.1, (node_bytes _ (all_shaped _ c.requires.opened.0.shape).sound).0)

pub returns-then-s-t : goal.returns-then-s-t
unfolding way_under
returns-then-s-t c =
    let a = c.args in
    let e = way_under_itself a.o.now a.lines.now (all_shaped _ c.requires.opened.0.shape) c.requires.quick_lines a.s c.requires.opened.1 in
    record { given = rw (← c.if-s-t.true, e) c.write_way_itself.ensures; stays = record { opened = c.requires.opened.0; rest = refl } }

pub noted_way-requires : goal.noted_way-requires
noted_way-requires c =
    let k = lent _ _ c.requires.opened.0 _ _ c.oracle_body.ensures c.node_count.ensures in record {
      n_le_max_nodes = (
        k.few,
        k.below _ c.requires.opened.1,
        k.below _ c.requires.opened.2,
        k.room,
        k.roads,
        k.below 1
            (omega (arith, c.requires.opened.1, c.requires.opened.2, c.if-s-t.false)),
      );
      lines_value = rw c.oracle_body.ensures c.requires.quick_lines;
    }

pub returns : goal.returns
unfolding way_under
returns c =
    let a = c.args in
    let e = way_is a.o.now a.lines.now (all_shaped _ c.requires.opened.0.shape) c.requires.quick_lines a.s a.t c.requires.opened.2 in record {
      given = rw (← e, ← c.oracle_body.ensures, ← c.node_count.ensures) c.noted_way.ensures.given;
      stays = noted_stays _ _ _ c.requires.opened.0
          (omega (arith, c.requires.opened.1, c.requires.opened.2, c.if-s-t.false))
          c.noted_way.auto.work (rw c.node_count.ensures at c.noted_way.ensures.others);
    }
