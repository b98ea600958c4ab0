-- `crossings::put_crossings_at` meets its contract: the crossing nodes of the edges passed are put in, and at the cursor's end those are all at v.
use native.Mathlib.Omega.{arith}
use mathlib.Core.Path.{refl}
use borrow.Author.Rules.{rules}
use Rattle.model.specs.Network.{edge_count}
use Rattle.access.proofs.Squares.{walked_first, walked_valid, walked_roads, walked_next, walked_last}
use Rattle.access.proofs.crossings.put_crossings_at.Goals as goal

pub loop-c-init : goal.loop-c-init
unfolding edge_count
loop-c-init c = (refl, refl, walked_first _ _ _ _ _ _ _ _ c.first_edge-c.ensures)

pub put_crossing-requires : goal.put_crossing-requires
put_crossing-requires c = (c.requires.n_value.0, c.requires.indexed_edges.ends, omega (arith, c.loop-c.invariant.0), omega (arith, c.loop-c.invariant.1, c.requires.n_value.2, c.requires.n_value.3, c.requires.n_value.4))

pub next_edge-c-requires : goal.next_edge-c-requires
next_edge-c-requires c =
    let o = c.put_crossing.ensures.others in record { n_le_max_nodes = (search rules, search rules, search rules); indexed_edges = walked_roads _ _ _ _ _ _ _ _ c.loop-c.work c.loop-c.invariant.2 c.requires.n_value.4 _ o c.requires.indexed_edges; valid = (walked_valid _ _ _ _ _ _ _ _ c.loop-c.work c.loop-c.invariant.2 c.requires.n_value.4 _ o, omega (arith, c.loop-c.invariant.0)) }

pub loop-c-smaller : goal.loop-c-smaller
loop-c-smaller c = c.next_edge-c.ensures.less

pub loop-c-preserved : goal.loop-c-preserved
loop-c-preserved c = (
  c.loop-c.invariant.0,
  search rules,
  walked_next _ _ _ _ _ _ _ _ c.loop-c.work c.loop-c.invariant.2 c.requires.n_value.4 _ c.put_crossing.ensures.others c.requires.indexed_edges.ends
      (omega (arith, c.loop-c.invariant.0)) c.put_crossing.ensures.members _ c.next_edge-c.ensures,
)

pub returns : goal.returns
returns c = walked_last _ _ _ _ _ _ _ _ _ c.loop-c.invariant.2 (omega (arith, c.loop-c.invariant.0))
