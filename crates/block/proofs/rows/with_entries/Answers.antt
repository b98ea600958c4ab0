-- `rows::with_entries` meets its contract.
use Rattle.model.specs.Query.{time_word}
use Rattle.checks.proofs.NameLists.{named_there}
use Rattle.block.proofs.Fill.{row_store, row_is, row_more, no_entries}
use Rattle.block.specs.Block.{row_by}
use native.Mathlib.Omega.{arith}
use lib.ListN.{set}
use lib.Seq.{take_all}
use mathlib.Core.List.{List}
use mathlib.Core.Path.{◌∙◌, ap}
use Prim.Native.Nat.{ℕ}
use borrow.Author.Rules.{rules}
use Rattle.block.proofs.rows.with_entries.Goals as goal

pub loop-j-init : goal.loop-j-init
loop-j-init c =
    let a = c.args in (
      omega arith,
      search rules,
      row_is _ _ _
          (c.requires.near_times.2 ∙ no_entries (time_word a.o.now) a.s),
    )

pub overflow_cast-ends : goal.overflow_cast-ends
overflow_cast-ends c = omega arith

pub entry_of-requires : goal.entry_of-requires
entry_of-requires c = (c.requires.opened.0, c.requires.opened.1, named_there _ _ _ c.loop-j-test.true c.requires.opened.2, c.requires.near_times.0 _ c.loop-j-test.true)

pub loop-j-preserved : goal.loop-j-preserved
loop-j-preserved c =
    let a = c.args in (
      omega arith,
      c.loop-j.invariant.1,
      rw (c.loop-j.invariant.2, c.entry_of.ensures)
          (row_store a.keys a.i c.loop-j.j _ _ (omega (arith, c.loop-j.invariant.1, c.requires.near_times.1))
          ∙ ap (λ (r : List ℕ). set a.keys a.i r) (row_more (time_word a.o.now) a.s a.ends.now c.loop-j.j c.loop-j-test.true
          (omega (arith, c.requires.opened.3)))),
    )

pub returns : goal.returns
returns c =
    let a = c.args in
    c.loop-j.invariant.2 ∙ ap (λ (l : List ℕ). set a.keys a.i (row_by (time_word a.o.now) l a.s))
    (take_all c.loop-j.j a.ends.now (omega arith))
