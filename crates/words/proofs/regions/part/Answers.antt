-- `regions::part` meets its contract.
use Rattle.words.proofs.Windows.{part_is}
use Rattle.words.proofs.regions.part.Goals as goal

pub returns : goal.returns
returns c = part_is c.args.a c.args.m c.args.work.now
