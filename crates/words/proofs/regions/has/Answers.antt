-- `regions::has` meets its contract: the part shows the region's members.
use mathlib.Core.Path.{◌∙◌}
use Rattle.words.proofs.Windows.{in_front}
use Rattle.words.proofs.regions.has.Goals as goal

pub returns : goal.returns
returns c =
    let a = c.args in
    c.contains.ensures ∙ rw c.region.ensures.0 (in_front a.n _ a.v c.requires.0)
