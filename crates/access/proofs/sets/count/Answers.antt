-- `sets::count` meets its contract.
use mathlib.Core.Path.{◌∙◌, ap, sym}
use lib.ListN.{drop}
use Rattle.crossing.specs.Sets.{ones}
use Rattle.crossing.specs.SetLaws.{ones_members}
use Rattle.words.specs.Regions.{region_at}
use Rattle.words.proofs.Windows.{flags_front}
use Rattle.access.proofs.sets.count.Goals as goal

pub returns : goal.returns
returns c =
    let a = c.args in
    let same = ap ones (flags_front a.n (drop (region_at a.n a.k) a.work.now)) in
    c.count.ensures.0 ∙ sym (ones_members a.n _) ∙ rw c.region.ensures.0 same
