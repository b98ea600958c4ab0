-- `regions::counts` meets its contract.
use Rattle.words.proofs.regions.counts.Goals as goal

pub returns : goal.returns
returns c = rw (c.region_at.ensures, c.half_words.ensures) at c.part.ensures
