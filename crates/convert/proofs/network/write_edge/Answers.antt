-- `network::write_edge` meets its contract. Assumes nothing.
use Rattle.convert.proofs.Leaving.{wrote_none, edge_fits, edge_wrote}
use mathlib.Core.Path.{sym, ◌∙◌}
use Rattle.model.specs.Bytes.{words16}
use Rattle.convert.specs.Parts.{edge_left}
use Rattle.convert.proofs.network.write_edge.Goals as goal

pub returns-then-not-is_open : goal.returns-then-not-is_open
unfolding edge_left
returns-then-not-is_open c = wrote_none _ _ _ _ (sym c.is_open.ensures ∙ c.if-not-is_open.true)

pub put-requires : goal.put-requires
put-requires c =
    let a = c.args in
    edge_fits a.edges.now (words16 a.closed.now) a.i a.out.now a.at (sym c.is_open.ensures ∙ c.if-not-is_open.false) c.requires.i_in_bounds

pub returns : goal.returns
returns c =
    let a = c.args in
    edge_wrote a.edges.now (words16 a.closed.now) a.i a.out.now a.at (sym c.is_open.ensures ∙ c.if-not-is_open.false) c.put.ensures
