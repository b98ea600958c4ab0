-- `sheets::lines_left` meets its contract. The loop's invariant: the kept lines from k on are left to count. Assumes nothing.
use native.Mathlib.Omega.{arith}
use mathlib.Core.Path.{refl, ap}
use lib.ListN.{length}
use Rattle.model.specs.Bytes.{words16}
use Rattle.sheet.specs.Sheet.{line_count}
use Rattle.convert.proofs.Leaving.{line_at, left_step, left_end, lines_all}
use Rattle.convert.proofs.Renumbering.{counted_next}
use borrow.Author.Rules.{rules}
use Rattle.convert.proofs.sheets.lines_left.Goals as goal

pub loop-k-init : goal.loop-k-init
unfolding line_count
loop-k-init c =
    let a = c.args in
    (refl, search rules, search rules, omega (arith, ap length (lines_all (words16 a.closed.now) a.lines.now)))

pub line_left-size-requires : goal.line_left-size-requires
unfolding line_count
line_left-size-requires c = (c.requires, omega arith)

pub overflow_add-size : goal.overflow_add-size
unfolding line_count
overflow_add-size c = omega arith

pub loop-k-preserved : goal.loop-k-preserved
loop-k-preserved c =
    let next = counted_next _ _ _ (left_step _ _ _ c.loop-k-test.true) c.loop-k.invariant.3 c.line_left-size.ensures.0 in
    (c.loop-k.invariant.0, search rules, omega (arith, c.line_left-size.ensures.1), next)

pub returns : goal.returns
unfolding line_count
returns c =
    let a = c.args in
    (omega (arith, ap length (left_end (line_at (words16 a.closed.now) a.lines.now) _ _ c.loop-k-test.false), c.loop-k.invariant.3), omega arith)
