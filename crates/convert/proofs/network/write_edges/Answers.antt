-- `network::write_edges` meets its contract. The loop's invariant: the open edges from i on are left to write. Assumes nothing.
use mathlib.Core.Path.{refl}
use Rattle.model.specs.Network.{edge_count}
use Rattle.emit.proofs.Writing.{written_fits, from_start, from_next, from_end}
use Rattle.convert.proofs.Leaving.{left_step, left_end, edges_all}
use borrow.Author.Rules.{rules}
use Rattle.convert.proofs.network.write_edges.Goals as goal

pub loop-i-init : goal.loop-i-init
unfolding edge_count
loop-i-init c = (refl, search rules, from_start (edges_all _ _) c.requires.1)

pub write_edge-end-requires : goal.write_edge-end-requires
unfolding edge_count
write_edge-end-requires c = record { closed_value = (c.requires.0, search rules); i_in_bounds = written_fits (left_step _ _ _ c.loop-i-test.true) c.loop-i.invariant.2.written }

pub loop-i-preserved : goal.loop-i-preserved
loop-i-preserved c = (c.loop-i.invariant.0, search rules, from_next (left_step _ _ _ c.loop-i-test.true) c.loop-i.invariant.2 c.write_edge-end.ensures)

pub returns : goal.returns
returns c = from_end (left_end _ _ _ c.loop-i-test.false) c.loop-i.invariant.2
