-- `regions::index_fits` meets its contract.
use Rattle.words.proofs.Windows.{fits_same}
use Rattle.words.proofs.regions.index_fits.Goals as goal

pub returns : goal.returns
returns c = rw c.requires.0 (fits_same c.args.n c.args.k c.requires.2)
