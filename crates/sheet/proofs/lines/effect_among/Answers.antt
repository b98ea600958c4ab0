-- `lines::effect_among` meets its contract. The loop's invariant: what the lines from k on do after x is what holds, and x is no closure.
use Prim.Native.Nat.{◌+◌}
use native.Mathlib.Omega.{arith}
use mathlib.Core.Path.{sym, ap, ◌∙◌}
use Rattle.sheet.specs.Sheet.{line_count}
use Rattle.sheet.specs.Codes.{effect_in}
use Rattle.sheet.proofs.Effects.{from, from_other, from_about, from_shut, from_end, from_first}
use Rattle.sheet.proofs.lines.effect_among.Goals as goal

pub loop-k-init : goal.loop-k-init
unfolding effect_in
loop-k-init c = (from_first c.args.lines.now c.args.i c.args.first c.args.end, λ z. cc)

pub line_edge-requires : goal.line_edge-requires
unfolding line_count
line_edge-requires c = omega arith

pub loop-k-preserved-then-line_edge-i : goal.loop-k-preserved-then-line_edge-i
loop-k-preserved-then-line_edge-i c =
    let a = c.args in
    let step = from_other a.lines.now a.i a.end c.loop-k.k _ (effect_in c.loop-k.x) (omega arith) c.line_edge.ensures.0 c.if-line_edge-i.true in
    (sym step ∙ c.loop-k.invariant.0, c.loop-k.invariant.1)

pub line_effect-y-requires : goal.line_effect-y-requires
unfolding line_count
line_effect-y-requires c = omega arith

pub returns-then-is_shut : goal.returns-then-is_shut
returns-then-is_shut c =
    let a = c.args in
    let step = from_about a.lines.now a.i a.end c.loop-k.k _ (effect_in c.loop-k.x) (omega arith) c.line_edge.ensures.0 c.if-line_edge-i.false c.loop-k.invariant.1
    c.line_effect-y.ensures in
    let s = c.is_shut.ensures.yes c.if-is_shut.true in
    s ∙ (sym (from_shut a.lines.now a.i a.end (c.loop-k.k + 1)) ∙ (ap (from a.lines.now a.i a.end (c.loop-k.k + 1)) (sym s) ∙ (sym step ∙ c.loop-k.invariant.0)))

pub loop-k-preserved : goal.loop-k-preserved
loop-k-preserved c =
    let a = c.args in
    let step = from_about a.lines.now a.i a.end c.loop-k.k _ (effect_in c.loop-k.x) (omega arith) c.line_edge.ensures.0 c.if-line_edge-i.false c.loop-k.invariant.1
    c.line_effect-y.ensures in
    (sym step ∙ c.loop-k.invariant.0, c.is_shut.ensures.no c.if-is_shut.false)

pub returns : goal.returns
returns c =
    let a = c.args in
    sym (from_end a.lines.now a.i a.end c.loop-k.k (effect_in c.loop-k.x) (omega arith)) ∙ c.loop-k.invariant.0
