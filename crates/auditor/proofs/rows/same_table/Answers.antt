-- `rows::same_table` meets its contract: the rows of the nodes from v on are left.
use native.Mathlib.Omega.{arith}
use mathlib.Core.Path.{sym, ◌∙◌}
use borrow.Author.Rules.{rules}
use Rattle.access.proofs.Flagging.{alone_later}
use Rattle.words.specs.Regions.{transit}
use Rattle.auditor.proofs.Behind.{size_behind, roads_behind}
use Rattle.auditor.proofs.TableRows.{rows_first, rows_differ, rows_next, rows_end}
use Rattle.auditor.proofs.rows.same_table.Goals as goal

pub loop-v-init : goal.loop-v-init
loop-v-init c = rows_first _ _ _ _

pub same_from-requires : goal.same_from-requires
same_from-requires c =
    let a = c.args in
    record {
      n_le_max_nodes = (
        search rules,
        search rules,
        omega (arith, c.loop-v.invariant.kept.size),
        size_behind a.n a.work.now c.loop-v.work c.loop-v.invariant.kept.behind a.size c.requires.n_le_max_nodes.2,
        c.loop-v.invariant.left.within,
      );
      indexed_edges = (
        roads_behind a.n a.work.now c.loop-v.work c.loop-v.invariant.kept.behind a.edges.now c.requires.indexed_edges.0,
        alone_later a.n transit a.work.now c.loop-v.work (omega arith) c.loop-v.invariant.kept.behind c.requires.indexed_edges.1,
      );
    }

pub shape_of-work-in_default : goal.shape_of-work-in_default
shape_of-work-in_default c = omega (arith, c.loop-v.invariant.kept.size)

pub returns-in_default : goal.returns-in_default
returns-in_default c = record {
  same = sym (rows_differ _ _ _ _ _ _ _ c.loop-v.invariant c.loop-v-test.true _ c.same_from.ensures.same
      c.in_default.is);
  others = c.same_from.ensures.others ∙ c.loop-v.invariant.kept.behind;
}

pub loop-v-preserved : goal.loop-v-preserved
loop-v-preserved c = rows_next _ _ _ _ _ _ _ c.loop-v.invariant c.loop-v-test.true _ c.same_from.ensures.same _
    c.in-Some.is _ (search rules) c.same_from.ensures.others

pub shape_of-work : goal.shape_of-work
shape_of-work c = c.loop-v.invariant.kept.size

pub returns : goal.returns
returns c = record { same = rows_end _ _ _ _ _ _ _ c.loop-v.invariant c.loop-v-test.false; others = c.loop-v.invariant.kept.behind }
