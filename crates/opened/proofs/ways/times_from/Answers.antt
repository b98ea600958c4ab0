-- `ways::times_from` meets its contract.
use native.Mathlib.Omega.{arith}
use Rattle.model.specs.Rules.{words_needed}
use Rattle.words.proofs.Stays.{kept_more}
use Rattle.opened.proofs.OpenLaws.{lent}
use Rattle.words.specs.Regions.{grid_at, search_words}
use Rattle.opened.proofs.ways.times_from.Goals as goal

pub search_front-requires : goal.search_front-requires
search_front-requires c =
    let k = lent _ _ c.requires.0 _ _ c.oracle_body.ensures c.node_count.ensures in
    record { n_le_max_nodes = (k.few, k.below _ c.requires.1, k.room, k.below 1 c.requires.2); indexed_edges = k.roads }

pub returns : goal.returns
unfolding words_needed
returns c =
    let found = rw (c.node_count.ensures, c.oracle_body.ensures) at c.search_front.ensures.found.0.times in record {
      times = record { times = found; room = omega (arith, c.requires.0.room, c.search_front.auto.work) };
      others = rw c.node_count.ensures at
          (kept_more (search_words c.node_count.result) (grid_at c.node_count.result) _ _ (omega arith) c.search_front.ensures.others);
    }
