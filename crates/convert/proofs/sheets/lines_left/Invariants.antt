-- `sheets::lines_left` meets its contract. The loop's invariant: the kept lines from k on are left to count. Assumes nothing.
use Prim.Native.Nat.{◌+◌, ◌*◌, ◌≤◌}
use mathlib.Core.Path.{◌≡◌}
use lib.ListN.{length}
use Rattle.model.specs.Bytes.{words16}
use Rattle.sheet.specs.Sheet.{line_count, line_size}
use Rattle.convert.specs.Parts.{lines_left}
use Rattle.convert.proofs.Leaving.{left_from, line_at}
use Rattle.convert.proofs.sheets.lines_left.Given as goal

abbrev pub invariant-loop-k : goal.invariant-loop-k
invariant-loop-k l = (l.count ≡ line_count l.lines) × (l.k ≤ l.count) × (l.size ≤ line_size * l.k)
    × (l.size + length (left_from (line_at (words16 l.closed) l.lines) l.k l.count) ≡ length (lines_left (words16 l.closed) l.lines))
