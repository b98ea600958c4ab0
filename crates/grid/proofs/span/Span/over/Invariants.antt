-- `grid::span::Span::over` meets its contract. Assumes nothing.
use Rattle.grid.proofs.Spans.{Spans, every, onward}
use Rattle.grid.proofs.span.Span.over.Given as goal

abbrev pub invariant-loop-i : goal.invariant-loop-i
invariant-loop-i l = Spans l.s (onward l.axis l.b l.i l.i-end) (every l.axis l.b)
