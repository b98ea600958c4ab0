-- `links::link_all` meets its contract: the edges below i are listed.
use native.Mathlib.Omega.{arith}
use mathlib.Core.Path.{refl}
use lib.ListN.{length}
use Rattle.model.specs.Network.{edge_count}
use Rattle.theory.specs.Sound.{edge_fine}
use Rattle.index.proofs.Listing.{chained_last, unlinked}
use Rattle.index.proofs.ByLinks.{linked_more}
use borrow.Author.Rules.{rules}
use Rattle.index.proofs.links.link_all.Goals as goal

pub loop-i-init : goal.loop-i-init
loop-i-init c = (refl, unlinked _ _ _ (length c.args.ix.now) _ (c.fill.ensures.after (search rules)))

pub list_edge-requires-clause-edge_size_in_bounds : goal.list_edge-requires-clause-edge_size_in_bounds
unfolding edge_count
list_edge-requires-clause-edge_size_in_bounds c =
    let f = edge_fine _ _ c.requires.edges_value c.loop-i.i (omega arith) in (omega arith, f.first_in, f.second_in)

pub list_edge-requires-clause-i_bound : goal.list_edge-requires-clause-i_bound
unfolding edge_count
list_edge-requires-clause-i_bound c = (omega (arith, c.fill.ensures.len), omega (arith, c.fill.ensures.len))

pub loop-i-preserved : goal.loop-i-preserved
unfolding edge_count
loop-i-preserved c = (search rules, linked_more _ c.loop-i.i _ _ _ (omega arith) c.loop-i.invariant.1 c.list_edge.ensures)

pub returns : goal.returns
unfolding edge_count
returns c = chained_last _ _ _ c.loop-i.i _ _ (omega arith) (omega (arith, c.fill.ensures.len)) c.loop-i.invariant.1
