-- `roads::Roads::past_shut` meets its contract: the edges that are passed have no arc left.
use native.Mathlib.Omega.{arith}
use Rattle.arcs.specs.Leaving.{arc_rank}
use Rattle.arcs.proofs.Passes.{skip_more}
use Rattle.arcs.proofs.roads.Roads.past_shut.Goals as goal

pub loop-b-smaller : goal.loop-b-smaller
unfolding arc_rank
loop-b-smaller c = c.next_left-b.ensures.0.less

pub loop-b-preserved : goal.loop-b-preserved
loop-b-preserved c = (
  skip_more _ _ _ _ _ c.loop-b.invariant.1 _ _ c.loop-b.invariant.0 (omega (arith, c.loop-b-test.true)) _ c.next_left-b.ensures.0,
  c.next_left-b.ensures.1,
)
