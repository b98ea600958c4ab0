-- `spans::note_all` meets its contract. The loop's invariant: the first k lines are noted.
use native.Mathlib.Omega.{arith}
use Rattle.sheet.specs.Sheet.{line_count}
use Rattle.sheet.proofs.Noting.{noted_all}
use Rattle.sheet.proofs.spans.note_all.Goals as goal

pub note_line-requires : goal.note_line-requires
unfolding line_count
note_line-requires c = (c.block_lines-size.ensures, omega arith, omega (arith, c.fill.ensures.len), c.loop-k.invariant.1)

pub returns : goal.returns
unfolding line_count
returns c = noted_all c.args.lines.now c.loop-k.k _ (omega arith) c.loop-k.invariant.1
