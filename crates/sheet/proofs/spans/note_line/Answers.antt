-- `spans::note_line` meets its contract: the word of the edge with the block of the line.
use native.Mathlib.Omega.{arith}
use mathlib.Core.Path.{refl}
use Rattle.sheet.specs.Sheet.{line_count}
use Rattle.sheet.specs.Spans.{block_lines}
use Rattle.sheet.proofs.Noting.{small, noted_next}
use Rattle.sheet.proofs.spans.note_line.Goals as goal

pub line_edge-requires : goal.line_edge-requires
unfolding line_count
line_edge-requires c = omega (arith, c.requires.1)

pub nonzero_div-k : goal.nonzero_div-k
unfolding block_lines
nonzero_div-k c = omega (arith, c.requires.0)

pub overflow_cast-k : goal.overflow_cast-k
overflow_cast-k c =
    let a = c.args in
    omega (arith, small a.lines.now a.size a.k c.requires.0 c.requires.1)

pub with_block-requires : goal.with_block-requires
with_block-requires c =
    let a = c.args in
    small a.lines.now a.size a.k c.requires.0 c.requires.1

pub returns : goal.returns
returns c =
    let a = c.args in
    noted_next a.lines.now a.k a.size c.line_edge.result _ c.with_block.result a.spans.now c.requires.2 c.line_edge.ensures.0 refl c.requires.0
    c.with_block.ensures c.requires.3
