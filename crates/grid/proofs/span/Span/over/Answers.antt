-- `grid::span::Span::over` meets its contract. Assumes nothing.
use Rattle.grid.proofs.Bounds.{some_node}
use Rattle.grid.proofs.Spans.{spans_first, spans_next, spans_end}
use Rattle.model.specs.Network.{node_count}
use Rattle.std.proofs.Common.{refl, arith}
use Rattle.grid.proofs.span.Span.over.Goals as goal

pub coordinate-first-requires : goal.coordinate-first-requires
unfolding node_count
coordinate-first-requires c = omega (arith, some_node c.args.b.now c.requires)

pub loop-i-init : goal.loop-i-init
unfolding node_count
loop-i-init c = spans_first c.args.axis c.args.b.now _ refl (some_node c.args.b.now c.requires) _ c.coordinate-first.ensures

pub loop-i-preserved : goal.loop-i-preserved
loop-i-preserved c =
    let a = c.args in
    spans_next a.axis a.b.now _ _ _ _ c.loop-i-test.true _ c.coordinate.ensures c.with-s.ensures c.loop-i.invariant

pub returns : goal.returns
returns c =
    let a = c.args in
    spans_end a.axis a.b.now _ _ _ c.loop-i.s c.loop-i-test.false c.loop-i.invariant
