-- `spans::note_lines` meets its contract: the spans that come back, and the words that were not lent.
use Rattle.sheet.proofs.Noting.{laid_noted, laid_only, spans_room}
use Prim.Native.Nat.{◌+◌, ◌≤◌}
use native.Mathlib.Omega.{arith}
use lib.ListN.{length}
use Rattle.sheet.proofs.spans.note_lines.Goals as goal

pub returns : goal.returns
returns c =
    let a = c.args in
    let w = a.work.now in
    let r : c.spans_at-a.result + c.span_count.result ≤ length w = omega
    (arith, c.requires.2, spans_room _ c.requires.0 _ _ c.spans_at-a.ensures c.span_count.ensures.0) in record {
      noted = laid_noted a.n _ _ w c.spans_at-a.ensures c.span_count.ensures.0 r c.note_all.new.spans c.note_all.auto.spans a.lines.now
          c.note_all.ensures;
      others = laid_only a.n _ _ w c.spans_at-a.ensures c.span_count.ensures.0 r c.note_all.new.spans c.note_all.auto.spans;
    }
