-- `rules::access::list_fits` meets its contract. Assumes nothing.
use Rattle.rules.proofs.AccessLayout.{unfit_start, unfit_count, fits_size}
use native.Mathlib.Omega.{arith}
use mathlib.Core.Path.{sym, ◌∙◌}
use Rattle.rules.proofs.access.list_fits.Goals as goal

pub returns-then-list_start-at : goal.returns-then-list_start-at
returns-then-list_start-at c = sym (unfit_start _ _ _ (λ e. omega arith))

pub returns-then-b-at-lt-COUNT_SIZE : goal.returns-then-b-at-lt-COUNT_SIZE
returns-then-b-at-lt-COUNT_SIZE c = sym (unfit_count _ _ _ (omega arith))

pub returns : goal.returns
returns c = fits_size _ _ _ (sym c.list_start.ensures ∙ c.if-list_start-at.false) c.requires.1 _
    c.size_at.ensures
