-- `sheets::write_lines` meets its contract. The loop's invariant: the kept lines from k on are left to write. Assumes nothing.
use mathlib.Core.Path.{refl}
use Rattle.sheet.specs.Sheet.{line_count}
use Rattle.emit.proofs.Writing.{written_fits, from_start, from_next, from_end}
use Rattle.convert.proofs.Leaving.{left_step, left_end, lines_all}
use borrow.Author.Rules.{rules}
use Rattle.convert.proofs.sheets.write_lines.Goals as goal

pub loop-k-init : goal.loop-k-init
unfolding line_count
loop-k-init c = (refl, search rules, from_start (lines_all _ _) c.requires.1)

pub write_line-end-requires : goal.write_line-end-requires
unfolding line_count
write_line-end-requires c = record { closed_value = (c.requires.0, search rules); k_in_bounds = written_fits (left_step _ _ _ c.loop-k-test.true) c.loop-k.invariant.2.written }

pub loop-k-preserved : goal.loop-k-preserved
loop-k-preserved c = (c.loop-k.invariant.0, search rules, from_next (left_step _ _ _ c.loop-k-test.true) c.loop-k.invariant.2 c.write_line-end.ensures)

pub returns : goal.returns
returns c = from_end (left_end _ _ _ c.loop-k-test.false) c.loop-k.invariant.2
