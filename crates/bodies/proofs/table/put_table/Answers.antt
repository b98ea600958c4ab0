-- `bodies::table::put_table` meets its contract. Assumes nothing.
use native.Mathlib.Omega.{arith}
use mathlib.Core.Path.{refl, ◌∙◌}
use borrow.Author.Rules.{rules}
use Rattle.access.proofs.Flagging.{alone_later}
use Rattle.emit.proofs.Turns.{members_step, members_end}
use Rattle.emit.proofs.Writing.{written_fits, written_next, written_end}
use Rattle.words.specs.Regions.{transit, search_words}
use Rattle.bodies.proofs.Tables.{rows_start}
use Rattle.index.proofs.Laid.{roads_from}
use Rattle.words.proofs.Windows.{region_later}
use Rattle.bodies.proofs.table.put_table.Goals as goal

pub loop-v-init : goal.loop-v-init
loop-v-init c =
    let a = c.args in
    (refl, refl, refl, rows_start a.edges.now a.n a.work.now a.t a.out.now c.requires.t_value.0 c.requires.t_value.1)

pub put_row-at-requires : goal.put_row-at-requires
put_row-at-requires c =
    let a = c.args in
    let s = region_later a.n transit a.work.now c.loop-v.work (omega arith) c.loop-v.invariant.2 in record {
      n_le_max_nodes = search rules;
      indexed_edges = (
        roads_from a.edges.now a.n a.work.now c.loop-v.work (search_words a.n) (omega arith) c.loop-v.invariant.2 c.requires.indexed_edges.0,
        alone_later a.n transit a.work.now c.loop-v.work (omega arith) c.loop-v.invariant.2 c.requires.indexed_edges.1,
      );
      t_value = (rw s c.requires.t_value.0, rw s (written_fits (members_step _ _ _ _ c.loop-v-test.true) c.loop-v.invariant.3));
    }

pub loop-v-preserved : goal.loop-v-preserved
loop-v-preserved c =
    let a = c.args in
    let s = region_later a.n transit a.work.now c.loop-v.work (omega arith) c.loop-v.invariant.2 in (
      search rules,
      search rules,
      c.put_row-at.ensures.others ∙ c.loop-v.invariant.2,
      written_next
          (members_step _ _ _ _ c.loop-v-test.true) c.loop-v.invariant.3 (rw s at c.put_row-at.ensures.bytes),
    )

pub returns : goal.returns
returns c = record { bytes = written_end (members_end _ _ _ _ c.loop-v-test.false) c.loop-v.invariant.3; others = c.loop-v.invariant.2 }
