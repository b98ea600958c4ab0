-- `spans::span_of` meets its contract: a word of the spans is a word of the working words.
use Rattle.sheet.proofs.Noting.{span_read}
use Rattle.sheet.proofs.spans.span_of.Goals as goal

pub returns : goal.returns
returns c =
    let a = c.args in
    span_read a.n a.work.now c.spans_at.result c.span_count.result a.i c.requires.0 c.requires.2 c.spans_at.ensures c.span_count.ensures.0
