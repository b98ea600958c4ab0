-- `near::search_near` meets its contract: without a search where s is the only node wanted, and after one.
use Rattle.model.specs.Contents.{node_body}
use Rattle.model.specs.Network.{node_count}
use Rattle.model.specs.Rules.{words_needed}
use Rattle.opened.proofs.OpenLaws.{opened_kept}
use Rattle.words.proofs.Stays.{kept_more}
use Rattle.words.proofs.TimeLaws.{store_kept}
use Rattle.block.proofs.NearLaws.{want_lacking, want_two, near_times, itself_times}
use native.Mathlib.Omega.{arith}
use mathlib.Core.Path.{◌∙◌}
use borrow.Author.Rules.{rules}
use Rattle.words.specs.Regions.{grid_at, search_words}
use Rattle.block.proofs.near.search_near.Goals as goal

pub store_time-requires : goal.store_time-requires
unfolding words_needed
store_time-requires c = omega (arith, c.node_count.ensures, c.requires.2, c.requires.0.room)

pub returns-then-left-eq0 : goal.returns-then-left-eq0
unfolding words_needed
returns-then-left-eq0 c =
    let a = c.args in
    let n = node_count (node_body a.o.now) in
    let back = store_kept n a.s 0 _ c.requires.2 (grid_at n) (omega arith) ∙ c.want_near-left.ensures.others in
    record {
      times = rw (c.store_time.ensures, c.node_count.ensures) (itself_times _ _ _ _ _ c.want_near-left.ensures.wants c.requires.3 c.if-left-eq0.true c.requires.0.shape c.requires.2 (omega (arith, c.requires.0.room)));
      others = rw (c.store_time.ensures, c.node_count.ensures) back;
    }

pub search_until-requires : goal.search_until-requires
search_until-requires c = record { opened = (opened_kept _ _ _ c.requires.0 (search rules) c.want_near-left.ensures.others, c.requires.2, want_two _ _ _ _ _ c.want_near-left.ensures.wants c.if-left-eq0.false); o_bound = want_lacking _ _ _ _ _ c.want_near-left.ensures.wants }

pub returns : goal.returns
returns c =
    let n = node_count (node_body c.args.o.now) in
    record { times = near_times _ _ _ _ _ c.want_near-left.ensures.wants c.requires.3 _ c.search_until.ensures.others c.search_until.ensures.times; others = kept_more (search_words n) (grid_at n) _ _ (omega arith) c.search_until.ensures.others ∙ c.want_near-left.ensures.others }
