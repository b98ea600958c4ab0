-- `rows::write_row` meets its contract. Assumes nothing.
use native.Mathlib.Omega.{arith}
use Rattle.lines.proofs.Chains.{holds}
use Rattle.lines.proofs.Turns.{begun_start, begun_end}
use Rattle.opened.proofs.OpenLaws.{opened_kept}
use Rattle.lines.proofs.rows.write_row.Goals as goal

pub node_count-n-requires : goal.node_count-n-requires
node_count-n-requires c = c.requires.0.shape

pub overflow_add-s : goal.overflow_add-s
overflow_add-s c = omega (arith, c.node_count-n.ensures)

pub returns-then-s-n : goal.returns-then-s-n
returns-then-s-n c =
    let a = c.args in
    record {
      text = holds _ c.requires.2 (begun_end a.o.now a.s (begun_start a.o.now a.s a.out.now c.requires.2)
          (omega (arith, c.if-s-n.true, c.node_count-n.ensures)));
      opened = c.requires.0;
    }

pub write_lines-requires : goal.write_lines-requires
write_lines-requires c = (opened_kept _ _ _ c.requires.0 c.times_from.auto.work c.times_from.ensures.others, c.requires.1, c.times_from.ensures.times, c.requires.2)

pub returns : goal.returns
returns c = record { text = holds _ c.requires.2 c.write_lines.ensures; opened = opened_kept _ _ _ c.requires.0 c.times_from.auto.work c.times_from.ensures.others }
