-- `parts::part_of` meets its contract.
use Rattle.block.specs.Parts.{part_of}
use Rattle.block.proofs.parts.part_of.Goals as goal

pub returns-in-Seconds : goal.returns-in-Seconds
unfolding part_of
returns-in-Seconds c = rw c.in-Seconds.is c.seconds_of.ensures

pub returns-in-Hops : goal.returns-in-Hops
unfolding part_of
returns-in-Hops c = rw c.in-Hops.is c.hops_of.ensures.0
