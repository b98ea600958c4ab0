-- `spans::cost_left` meets its contract: no line about the edge, a closure, or a delay.
use native.Mathlib.Omega.{arith}
use Rattle.model.specs.Network.{edge, edge_count}
use Rattle.words.specs.Regions.{spans_in}
use Rattle.sheet.specs.Sheet.{lines_in, holds}
use Rattle.sheet.proofs.Costs.{spanned_in, nothing_held, as_was, by_shut, by_delay}
use Rattle.sheet.proofs.spans.cost_left.Goals as goal

pub edge_key-cost-requires : goal.edge_key-cost-requires
unfolding edge_count
edge_key-cost-requires c = omega arith

pub returns-then-x-eq0 : goal.returns-then-x-eq0
returns-then-x-eq0 c =
    let a = c.args in
    let span_of = c.span_of-x in
    let all = spanned_in a.lines.now (spans_in a.n a.work.now) span_of.result a.i
    c.requires.le_n.3 span_of.ensures in
    as_was (holds (lines_in a.lines.now) a.i) _ (edge a.edges.now a.i)
    (nothing_held a.lines.now span_of.result a.i c.if-x-eq0.true all) c.edge_key-cost.ensures.0

pub returns-in-Shut : goal.returns-in-Shut
returns-in-Shut c = by_shut _ _ c.in-Shut.ensures

pub returns-in-Delayed : goal.returns-in-Delayed
returns-in-Delayed c = by_delay _ _ c.in-Delayed.added c.in-Delayed.ensures _ c.edge_key-cost.ensures.0
