-- `local::search_to` meets its contract.
use Rattle.arcs.proofs.Kept.{edges_behind}
use Rattle.opened.proofs.OpenLaws.{lacking_one}
use Rattle.words.proofs.Stays.{kept_more}
use mathlib.Core.Path.{◌∙◌}
use native.Mathlib.Omega.{arith}
use Rattle.words.specs.Regions.{grid_at, search_words}
use Rattle.opened.proofs.local.search_to.Goals as goal

pub search_wanted_under-requires : goal.search_wanted_under-requires
search_wanted_under-requires c =
    let a = c.args in
    record { n_le_max_nodes = (c.requires.0, c.requires.1, omega (arith, c.requires.3, c.want_only.auto.work), rw c.want_only.ensures.members (lacking_one a.n a.t), c.requires.5); edges_under = edges_behind _ _ _ _ _ c.want_only.ensures.others c.requires.4 }

pub returns : goal.returns
returns c =
    let a = c.args in
    record {
      found = rw c.want_only.ensures.members at c.search_wanted_under.ensures.found.0;
      others = kept_more (search_words a.n) (grid_at a.n) _ _ (omega arith) c.search_wanted_under.ensures.others
          ∙ c.want_only.ensures.others;
    }
