-- `builder::calls::prepare` meets its contract: the pass keeps the index. Assumes nothing.
use native.Mathlib.Omega.{arith}
use mathlib.Core.Path.{◌∙◌}
use borrow.Author.Rules.{rules}
use Rattle.index.proofs.Laid.{roads_kept}
use Rattle.model.specs.Rules.{work_words}
use Rattle.words.specs.Regions.{index_at}
use Rattle.words.proofs.Stays.{kept_more}
use Rattle.builder.proofs.calls.prepare.Goals as goal

pub build_index-requires : goal.build_index-requires
build_index-requires c = record { n_le_max_nodes = (c.args.ground.now.keeps.2, c.requires.0); edges_value = rw c.args.ground.now.keeps.1 c.args.ground.now.keeps.0.edges_rule }

pub mark_transit-requires : goal.mark_transit-requires
mark_transit-requires c = record { on_ground = (search rules, c.requires.1); indexed_edges = c.build_index.ensures.roads }

pub returns : goal.returns
returns c =
    let a = c.args in
    record { members = c.mark_transit.ensures.members; counted = c.mark_transit.ensures.counted; roads = roads_kept a.ground.now.edges.now a.ground.now.n _ _ c.mark_transit.ensures.others c.build_index.ensures.roads; behind = kept_more (index_at a.ground.now.n) (work_words a.ground.now.n) _ _ (omega (arith, c.requires.1)) c.mark_transit.ensures.others ∙ c.build_index.ensures.behind }
