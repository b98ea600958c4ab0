-- `lists::list_count` meets its contract.
use native.Mathlib.Omega.{arith}
use mathlib.Core.Path.{◌∙◌, ap}
use Rattle.model.specs.Bytes.{word16}
use Rattle.model.specs.Oracle.{list_count}
use Rattle.tables.specs.Entries.{list_within}
use Rattle.tables.proofs.lists.list_count.Goals as goal

pub read16-requires : goal.read16-requires
read16-requires c = omega (arith, list_within _ _ _ c.requires.1)

pub returns : goal.returns
unfolding list_count
returns c = (c.read16.ensures.0 ∙ ap (word16 _) c.list_start.ensures, c.read16.ensures.1)
