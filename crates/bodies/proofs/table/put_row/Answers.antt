-- `bodies::table::put_row` meets its contract. Assumes nothing.
use native.Mathlib.Omega.{arith}
use mathlib.Core.Path.{sym, ◌∙◌, refl}
use borrow.Author.Rules.{rules}
use Rattle.access.proofs.Flagging.{→member}
use Rattle.bodies.proofs.Tables.{no_row, row_fits, one_row}
use Rattle.words.proofs.Windows.{region_later}
use Rattle.bodies.proofs.table.put_row.Goals as goal

pub returns-then-not-has : goal.returns-then-not-has
returns-then-not-has c =
    let a = c.args in record {
      bytes = no_row a.edges.now a.n a.v a.work.now (search rules) a.t a.at a.out.now c.requires.t_value.0
          (sym c.has.ensures ∙ c.if-not-has.true);
      others = refl;
    }

pub search_front-requires : goal.search_front-requires
search_front-requires c =
    let two = c.requires.indexed_edges.1 _ (→member _ _ _ c.requires.n_le_max_nodes.1 (sym c.has.ensures ∙ c.if-not-has.false)) in
    record { n_le_max_nodes = (search rules, search rules, search rules, two); indexed_edges = c.requires.indexed_edges.0 }

pub write_times-requires : goal.write_times-requires
write_times-requires c =
    let a = c.args in
    let s = region_later a.n 6 a.work.now _ (omega arith) c.search_front.ensures.others in (
      search rules,
      rw s c.requires.t_value.0,
      row_fits a.edges.now a.n a.v a.work.now (search rules) a.t a.at a.out.now
          c.requires.t_value.0 (sym c.has.ensures ∙ c.if-not-has.false) c.requires.t_value.1,
      search rules,
    )

pub overflow_mul-result : goal.overflow_mul-result
overflow_mul-result c =
    let a = c.args in
    omega (
      arith,
      row_fits a.edges.now a.n a.v a.work.now (search rules) a.t a.at a.out.now c.requires.t_value.0
          (sym c.has.ensures ∙ c.if-not-has.false) c.requires.t_value.1,
    )

pub overflow_add-result : goal.overflow_add-result
overflow_add-result c =
    let a = c.args in
    omega (
      arith,
      row_fits a.edges.now a.n a.v a.work.now (search rules) a.t a.at a.out.now c.requires.t_value.0
          (sym c.has.ensures ∙ c.if-not-has.false) c.requires.t_value.1,
    )

pub returns : goal.returns
returns c =
    let a = c.args in record {
      bytes = one_row a.edges.now a.n a.v a.work.now (search rules) a.t a.at a.out.now c.requires.t_value.0
          (sym c.has.ensures ∙ c.if-not-has.false) _ _ c.search_front.ensures.found.0.times
          c.search_front.ensures.others c.write_times.ensures;
      others = c.search_front.ensures.others;
    }
