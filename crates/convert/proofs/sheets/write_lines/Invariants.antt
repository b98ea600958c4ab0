-- `sheets::write_lines` meets its contract. The loop's invariant: the kept lines from k on are left to write. Assumes nothing.
use mathlib.Core.Path.{◌≡◌}
use lib.ListN.{length}
use Rattle.model.specs.Bytes.{words16}
use Rattle.sheet.specs.Sheet.{line_count}
use Rattle.emit.proofs.Writing.{WrittenFrom}
use Rattle.convert.specs.Parts.{lines_left}
use Rattle.convert.proofs.Leaving.{left_from, line_at}
use Rattle.convert.proofs.sheets.write_lines.Given as goal

abbrev pub invariant-loop-k : goal.invariant-loop-k
invariant-loop-k l = (l.count ≡ line_count l.lines) × (length l.out ≡ length l.initial.out)
    × WrittenFrom l.initial.out l.at (lines_left (words16 l.closed) l.lines) l.end l.out (left_from (line_at (words16 l.closed) l.lines) l.k l.count)
