-- `program::print_listing` meets its contract. Assumes nothing.
use Rattle.model.specs.Rules.{well_shaped}
use Rattle.lines.proofs.Sizes.{words_enough}
use borrow.Author.Tests.{eq-eqb}
use mathlib.Core.Path.{sym}
use Rattle.reader.proofs.Kept.{none_broken}
use borrow.Author.Rules.{rules}
use Rattle.lines.proofs.program.print_listing.Goals as goal

pub print_header-requires : goal.print_header-requires
unfolding well_shaped
print_header-requires g c = (eq-eqb _ _ (sym (none_broken c.shape_refusal.ensures c.in_default.is)), search rules)

pub open_words-requires : goal.open_words-requires
unfolding well_shaped
open_words-requires g c = (
  eq-eqb _ _ (sym (none_broken c.shape_refusal.ensures c.in_default.is)),
  words_enough _ _ c.requires.0,
)

pub print_rows-requires : goal.print_rows-requires
print_rows-requires g c = (c.open_words.ensures.opened, search rules)
