-- What is known of roads: their index, spans and rule 20 can be had. Assumes nothing.
use Prim.Native.Nat.{ℕ}
use native.Mathlib.Decide.{dec_lt, dec_le}
use mathlib.Core.Logic.{∥∥₁_map}
use mathlib.Core.List.{List}
use Rattle.model.specs.Bytes.{Bytes}
use Rattle.words.specs.Regions.{spans_in}
use Rattle.sheet.specs.Sheet.{line}
use Rattle.sheet.specs.Spans.{block_lines, span_of, span_first, span_end}
use Rattle.index.proofs.Had.{had, had_same, roads_had}
use Rattle.arcs.specs.Leaving.{EdgesUnder}
use Rattle.arcs.specs.declared.roads.Roads.{Roads}

pub under_had : (edges lines : Bytes) (n : ℕ) (w : List ℕ) → ∥ EdgesUnder edges lines n w ∥₁ → EdgesUnder edges lines n w
under_had edges lines n w h = record {
  roads = roads_had edges n w (∥∥₁_map h (λ g. g.roads));
  spanned = record {
    each = λ k l.
        let x : ℕ = span_of (spans_in n w) (line lines k).edge in (
          had (dec_le (span_first (block_lines lines) x) k) (∥∥₁_map h (λ g. (g.spanned.each k l).0)),
          had (dec_lt k (span_end (block_lines lines) x)) (∥∥₁_map h (λ g. (g.spanned.each k l).1)),
        );
  };
  quick = had_same (∥∥₁_map h (λ g. g.quick));
}

pub walked : (r : Roads) → EdgesUnder r.edges.now r.lines.now r.n r.work.now
walked r = under_had r.edges.now r.lines.now r.n r.work.now r.under
