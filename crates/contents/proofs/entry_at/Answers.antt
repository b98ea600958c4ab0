-- `contents::entry_at` meets its contract.
use mathlib.Core.Path.{refl}
use Rattle.model.specs.Contents.{entry_at}
use Rattle.contents.proofs.entry_at.Goals as goal

pub returns : goal.returns
unfolding entry_at
returns c = refl
