-- `crossings::put_crossing` meets its contract: the set with the crossing node, or as it stands.
use native.Mathlib.Omega.{arith}
use mathlib.Core.Path.{◌∙◌}
use borrow.Author.Rules.{rules}
use Rattle.model.specs.Access.{crossing_end}
use Rattle.model.specs.Network.{edge_count}
use Rattle.words.proofs.Stays.{only_same}
use Rattle.theory.specs.Sound.{edge_fine}
use Rattle.access.proofs.crossings.put_crossing.Goals as goal

pub crosses_edge-requires : goal.crosses_edge-requires
crosses_edge-requires c = (rw c.requires.0 at c.requires.1, search rules)

pub crossing_end-requires : goal.crossing_end-requires
unfolding edge_count
crossing_end-requires c = omega arith

pub put-requires : goal.put-requires
unfolding crossing_end
put-requires c = (omega (arith, (edge_fine _ _ c.requires.1 c.args.i c.requires.2).first_in, c.crossing_end.ensures), search rules)

pub returns-then-crosses_edge : goal.returns-then-crosses_edge
returns-then-crosses_edge c = record {
  members = c.put.ensures.members ∙ rw (
    c.crossing_end.ensures,
    ← c.crosses_edge.ensures,
    c.if-crosses_edge.true,
  );
  others = c.put.ensures.others;
}

pub returns-else-crosses_edge : goal.returns-else-crosses_edge
returns-else-crosses_edge c = record { members = rw (← c.crosses_edge.ensures, c.if-crosses_edge.false); others = only_same _ _ _ }
