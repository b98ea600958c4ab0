-- `spans::effect_in` meets its contract: the lines of the span, cut at the last line.
use Prim.Native.Nat.{◌/◌, ◌%◌}
use native.Mathlib.Omega.{arith}
use mathlib.Core.Path.{refl, sym, ◌∙◌}
use Rattle.sheet.specs.Sheet.{line_count}
use Rattle.sheet.proofs.Costs.{span_fits, cut_span}
use Rattle.sheet.proofs.spans.effect_in.Goals as goal

pub overflow_mul-first : goal.overflow_mul-first
unfolding line_count
overflow_mul-first c =
    let a = c.args in
    omega (arith, span_fits a.lines.now _ c.block_lines-size.result (a.x / 65536) refl c.block_lines-size.ensures (omega arith))

pub overflow_mul-end : goal.overflow_mul-end
unfolding line_count
overflow_mul-end c =
    let a = c.args in
    omega (arith, span_fits a.lines.now _ c.block_lines-size.result (a.x % 65536) refl c.block_lines-size.ensures (omega arith))

pub effect_among-requires : goal.effect_among-requires
unfolding line_count
effect_among-requires c = omega arith

pub returns : goal.returns
unfolding line_count
returns c =
    let a = c.args in
    c.effect_among.ensures
    ∙ sym (cut_span a.lines.now _ c.block_lines-size.result a.x a.i refl c.block_lines-size.ensures c.requires c.min.result c.min.ensures)
