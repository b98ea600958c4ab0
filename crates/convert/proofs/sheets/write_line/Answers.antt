-- `sheets::write_line` meets its contract. Assumes nothing.
use native.Mathlib.Omega.{arith}
use mathlib.Core.Path.{sym, ◌∙◌}
use Rattle.model.specs.Bytes.{words16}
use Rattle.convert.proofs.Renumbering.{below_most, line_none, line_fits, line_wrote}
use Rattle.convert.proofs.sheets.write_line.Goals as goal

pub returns-then-not-is_open : goal.returns-then-not-is_open
returns-then-not-is_open c = line_none _ _ _ _ c.line_edge-i.ensures.0 _ _ (sym c.is_open.ensures ∙ c.if-not-is_open.true)

pub overflow_sub-edge : goal.overflow_sub-edge
overflow_sub-edge c =
    let a = c.args in
    omega (arith, c.closed_before.ensures, below_most (words16 a.closed.now) c.requires.closed_value.0 c.line_edge-i.result)

pub put_line-requires : goal.put_line-requires
put_line-requires c =
    let a = c.args in
    line_fits _ _ _ _ c.line_edge-i.ensures.0 a.out.now a.at (sym c.is_open.ensures ∙ c.if-not-is_open.false) c.requires.k_in_bounds

pub returns : goal.returns
returns c = line_wrote _ _ _ _ c.line_edge-i.ensures.0 _ _ (sym c.is_open.ensures ∙ c.if-not-is_open.false) _ _ c.closed_before.ensures
    c.read32-added.ensures c.put_line.ensures
