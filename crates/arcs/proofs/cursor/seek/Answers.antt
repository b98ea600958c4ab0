-- `cursor::seek` meets its contract: no edge is left behind from block to block.
use native.Mathlib.Omega.{arith}
use mathlib.Core.Path.{subst, sym, ap, ◌∙◌}
use Rattle.model.specs.Network.{edge_count}
use Rattle.arcs.proofs.Seek.{size_small, link_inside, same_block, block_on, onward_then, sought_none}
use Rattle.arcs.specs.Cursor.{rank}
use Rattle.arcs.specs.Seeking.{Onward}
use Rattle.arcs.specs.declared.cursor.Cursor.{Cursor}
use Rattle.arcs.proofs.cursor.seek.Goals as goal

pub returns-then-s-n : goal.returns-then-s-n
returns-then-s-n c =
    let t = onward_then _ _ _ _ _ _ _ c.loop-s.invariant c.within_block-s.ensures in
    rw c.at_end.ensures (sought_none _ _ _ _ c.requires.at_value.3 _ _ t c.if-s.false
    c.if-s-n.true)

pub block_at-b-requires : goal.block_at-b-requires
block_at-b-requires c =
    let s = c.within_block-s.ensures.seeking in
    (c.requires.at_value.0, c.requires.at_value.1, c.requires.at_value.2, link_inside _ _ _ _ c.requires.indexed_edges c.requires.at_value.3 _ s c.if-s-n.false, size_small _ _ _ _ c.requires.indexed_edges c.requires.at_value.3 _ s)

pub loop-s-smaller : goal.loop-s-smaller
unfolding edge_count
loop-s-smaller c =
    let a = c.args in
    let t = c.within_block-s.ensures in
    omega (
      arith,
      ap (rank a.edges.now) (c.block_at-b.ensures ∙ same_block a.edges.now a.n a.work.now a.u c.requires.indexed_edges c.requires.at_value.3 _ t.seeking _),
      (block_on a.edges.now a.n a.work.now a.u c.requires.indexed_edges c.requires.at_value.3 _ t.seeking c.if-s.false c.if-s-n.false _ t).1,
      t.less,
    )

pub loop-s-preserved : goal.loop-s-preserved
unfolding edge_count
loop-s-preserved c =
    let a = c.args in
    let t = onward_then _ _ _ _ _ _ _ c.loop-s.invariant c.within_block-s.ensures in
    let is = c.block_at-b.ensures ∙ same_block a.edges.now a.n a.work.now a.u c.requires.indexed_edges c.requires.at_value.3 _ t.seeking _ in
    subst (λ (z : Cursor). Onward a.edges.now a.n a.work.now a.u a.c z) (sym is)
    (block_on a.edges.now a.n a.work.now a.u c.requires.indexed_edges c.requires.at_value.3 _ t.seeking c.if-s.false c.if-s-n.false _ t).0
