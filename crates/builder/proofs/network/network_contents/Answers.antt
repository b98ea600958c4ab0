-- `network::network_contents` meets its contract.
use native.Mathlib.Omega.{arith}
use Rattle.model.specs.Contents.{network_entries}
use Rattle.theory.specs.Joined.{whole_contents}
use Rattle.builder.proofs.network.network_contents.Goals as goal

pub read-requires : goal.read-requires
read-requires c = (omega arith, whole_contents _ _ _ c.requires.0)

pub returns : goal.returns
returns c = λ k h. record { entries = network_entries; few = omega arith; below = h; read = c.read.ensures; joined = c.requires.1 }
