-- `rows::keys_between` meets its contract: start by start, and the oracle stays opened.
use Rattle.model.specs.Query.{time_word}
use Rattle.block.proofs.Fill.{no_rows}
use Rattle.block.specs.Block.{block_by}
use Rattle.opened.proofs.OpenLaws.{opened_kept}
use native.Mathlib.Omega.{arith}
use lib.Seq.{take_all}
use mathlib.Core.List.{List}
use mathlib.Core.Path.{refl, ◌∙◌, ap}
use Prim.Native.Nat.{ℕ}
use borrow.Author.Rules.{rules}
use Rattle.block.proofs.rows.keys_between.Goals as goal

pub loop-i-init : goal.loop-i-init
loop-i-init c =
    let a = c.args in
    (omega arith, no_rows (time_word a.o.now) a.starts.now a.ends.now, refl, refl)

pub with_start-filled-requires : goal.with_start-filled-requires
with_start-filled-requires c = record { opened = (opened_kept _ _ _ c.requires.opened.0 c.loop-i.invariant.2 c.loop-i.invariant.3, c.opened_grid-grid.ensures, c.requires.opened.1, c.requires.opened.2); starts_len_bound = (c.requires.starts_len_bound.0, c.requires.starts_len_bound.1, c.loop-i-test.true, c.loop-i.invariant.1) }

pub loop-i-preserved : goal.loop-i-preserved
loop-i-preserved c = (
  omega arith,
  c.with_start-filled.ensures.keys,
  search rules,
  c.with_start-filled.ensures.others
      ∙ c.loop-i.invariant.3,
)

pub returns : goal.returns
returns c =
    let a = c.args in
    record { keys = c.loop-i.invariant.1 ∙ ap (λ (l : List ℕ). block_by (time_word a.o.now) l a.ends.now) (take_all c.loop-i.i a.starts.now (omega arith)); others = c.loop-i.invariant.3 }
