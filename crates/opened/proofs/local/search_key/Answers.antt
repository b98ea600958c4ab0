-- `local::search_key` meets its contract.
use Rattle.opened.proofs.OpenLaws.{stopped_word}
use Rattle.sheet.specs.ArcsUnder.{arcs_under}
use mathlib.Core.Path.{◌∙◌}
use Rattle.opened.proofs.local.search_key.Goals as goal

pub returns : goal.returns
returns c =
    let a = c.args in
    let word = stopped_word (arcs_under a.edges.now a.lines.now) a.n a.s a.t _ _ c.requires.2 c.search_to.ensures.found in
    record { key = (c.time_of.ensures.0 ∙ word, c.time_of.ensures.2); others = c.search_to.ensures.others }
