-- `builder::parts::put_grid` meets its contract. Assumes nothing.
use mathlib.Core.Path.{refl}
use Rattle.model.specs.Bytes.{bytes16}
use Rattle.model.specs.Grid.{division_bytes}
use Rattle.builder.proofs.parts.put_grid.Goals as goal

pub returns : goal.returns
unfolding division_bytes bytes16
returns c = record { ends = refl; spliced = c.write16.ensures }
