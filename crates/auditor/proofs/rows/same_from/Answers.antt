-- `rows::same_from` meets its contract: the search leaves the regions behind its own.
use mathlib.Core.Path.{refl, sym, ◌∙◌, ap}
use borrow.Author.Rules.{rules}
use Rattle.model.specs.Bytes.{Bytes}
use Rattle.access.proofs.Flagging.{→member}
use Rattle.emit.specs.Records.{compared}
use Rattle.auditor.proofs.Behind.{size_behind, row_behind}
use Rattle.auditor.proofs.RowBytes.{row_out, row_in}
use Rattle.auditor.proofs.rows.same_from.Goals as goal

pub returns-then-not-has : goal.returns-then-not-has
returns-then-not-has c =
    let a = c.args in
    record { same = row_out a.n a.v a.work.now (search rules) a.table.now a.at _ (sym c.has.ensures ∙ c.if-not-has.true); others = refl }

pub search_front-requires : goal.search_front-requires
search_front-requires c =
    let two = c.requires.indexed_edges.1 _ (→member _ _ _ c.requires.n_le_max_nodes.1 (sym c.has.ensures ∙ c.if-not-has.false)) in
    record { n_le_max_nodes = (search rules, search rules, search rules, two); indexed_edges = c.requires.indexed_edges.0 }

pub row_at-requires : goal.row_at-requires
row_at-requires c =
    let a = c.args in (
      search rules,
      size_behind a.n a.work.now _ c.search_front.ensures.others a.size c.requires.n_le_max_nodes.3,
      search rules,
      search
          rules,
    )

pub returns : goal.returns
returns c =
    let a = c.args in record {
      same = c.row_at.ensures ∙ (ap (λ (r : Bytes). compared a.table.now a.at r)
          (row_behind a.n a.work.now _ c.search_front.ensures.others _ a.v _ c.search_front.ensures.found.0) ∙ row_in a.n a.v a.work.now
          (search rules) a.table.now a.at _ (sym c.has.ensures ∙ c.if-not-has.false));
      others = c.search_front.ensures.others;
    }
