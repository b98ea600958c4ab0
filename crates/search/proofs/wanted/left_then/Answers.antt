-- `wanted::left_then` meets its contract: the bit of the node that was settled last.
use native.Mathlib.Omega.{arith}
use mathlib.Core.Path.{sym, ◌∙◌}
use Rattle.heap.specs.Words.{low}
use Rattle.search.proofs.Wants.{want_bit, want_set, want_not_set}
use Rattle.search.proofs.wanted.left_then.Goals as goal

pub contains-requires : goal.contains-requires
unfolding low
contains-requires c =
    let a = c.args in
    want_bit a.n _ _ a.work.now c.search_words-m.ensures c.requires.3 c.requires.4

pub returns-then-contains : goal.returns-then-contains
unfolding low
returns-then-contains c =
    let a = c.args in
    omega (
      arith,
      want_set a.n a.work.now _ c.requires.4
          (rw c.search_words-m.ensures at (sym c.contains.ensures ∙ c.if-contains.true)),
    )

pub returns : goal.returns
unfolding low
returns c =
    let a = c.args in
    omega (
      arith,
      want_not_set a.n a.work.now _ c.requires.4
          (rw c.search_words-m.ensures at (sym c.contains.ensures ∙ c.if-contains.false)),
    )
