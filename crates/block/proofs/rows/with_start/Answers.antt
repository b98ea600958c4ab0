-- `rows::with_start` meets its contract: a start that was named before has its row already.
use Rattle.model.specs.Query.{time_word}
use lib.ListN.{get_or, take, set}
use Prim.Native.Nat.{ℕ}
use Rattle.block.proofs.Fill.{block_more, row_unused, row_before}
use Rattle.checks.proofs.NameLists.{named_there}
use Rattle.block.specs.Block.{row_by, block_by}
use native.Mathlib.Omega.{arith}
use mathlib.Core.List.{List, []}
use mathlib.Core.Path.{refl, ◌∙◌, ap}
use Rattle.block.proofs.rows.with_start.Goals as goal

pub with_row_again-requires : goal.with_row_again-requires
with_row_again-requires c = (omega (arith, c.requires.starts_len_bound.0), omega (arith, c.requires.starts_len_bound.0))

pub returns-then-k-i : goal.returns-then-k-i
returns-then-k-i c =
    let a = c.args in
    let word = time_word a.o.now in
    record {
      keys = c.with_row_again.ensures ∙ rw c.requires.starts_len_bound.3 (ap (set (block_by word (take a.i a.starts.now) a.ends.now) a.i)
          (row_before word a.starts.now a.ends.now a.i c.requires.starts_len_bound.2 c.first_named-k.result c.if-k-i.true ∙
          ap (row_by word a.ends.now) c.first_named-k.ensures.1) ∙ block_more word a.starts.now a.ends.now a.i
          c.requires.starts_len_bound.2 (omega (arith, c.requires.starts_len_bound.0)));
      others = refl;
    }

pub overflow_cast-starts : goal.overflow_cast-starts
overflow_cast-starts c = omega arith

pub with_row-requires : goal.with_row-requires
with_row-requires c =
    let a = c.args in
    let word = time_word a.o.now in
    record {
      opened = (c.requires.opened.0, c.requires.opened.1, named_there _ _ _ c.requires.starts_len_bound.2 c.requires.opened.2, c.requires.opened.3, c.requires.starts_len_bound.1);
      i_lt_max_names = (
        omega (arith, c.requires.starts_len_bound.0),
        ap (λ (l : List (List ℕ)). get_or l a.i []) c.requires.starts_len_bound.3 ∙ row_unused word a.starts.now a.ends.now a.i c.requires.starts_len_bound.2
            (omega (arith, c.requires.starts_len_bound.0)),
      );
    }

pub returns : goal.returns
returns c =
    let a = c.args in
    let word = time_word a.o.now in
    record { keys = c.with_row.ensures.keys ∙ rw c.requires.starts_len_bound.3 (block_more word a.starts.now a.ends.now a.i c.requires.starts_len_bound.2 (omega (arith, c.requires.starts_len_bound.0))); others = c.with_row.ensures.others }
