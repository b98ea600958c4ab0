-- `blocks::list_all` meets its contract: the edges below i are listed.
use native.Mathlib.Nat.{div-le_self}
use native.Mathlib.Omega.{arith}
use mathlib.Core.Path.{refl}
use Rattle.index.proofs.Listing.{chained_more, chained_last}
use Rattle.model.specs.Network.{edge_count}
use Rattle.theory.specs.Sound.{edge_fine}
use Rattle.index.proofs.blocks.list_all.Goals as goal

pub list_edge-k-requires-clause-edge_size_in_bounds : goal.list_edge-k-requires-clause-edge_size_in_bounds
unfolding edge_count
list_edge-k-requires-clause-edge_size_in_bounds c =
    let f = edge_fine _ _ c.requires.edges_value c.loop-i.i (omega arith) in (omega arith, f.first_in, f.second_in)

pub list_edge-k-requires-clause-n_le_k : goal.list_edge-k-requires-clause-n_le_k
unfolding edge_count
list_edge-k-requires-clause-n_le_k c = (omega arith, omega arith, omega arith, omega (arith, div-le_self c.loop-i.i c.args.s))

pub loop-i-preserved : goal.loop-i-preserved
unfolding edge_count
loop-i-preserved c =
    let grown = c.list_edge-k.ensures.0 in (
      omega (arith, grown.more),
      omega (arith, grown.few),
      omega arith,
      chained_more _ _ _ c.loop-i.i _ _ _ _ _ (omega arith) refl c.loop-i.invariant.3 c.list_edge-k.ensures,
    )

pub returns : goal.returns
unfolding edge_count
returns c = λ e. chained_last _ _ _ c.loop-i.i _ _ (omega arith) c.loop-i.invariant.1 c.loop-i.invariant.3
