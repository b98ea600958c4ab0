-- `rules::table::four_exceed` meets its contract. Assumes nothing.
use mathlib.Core.Path.{refl, sym, ◌∙◌}
use mathlib.Core.Bool.{◌||◌}
use Rattle.theory.specs.Passed.{or-false}
use Rattle.rules.proofs.TableLaws.{four_fine}
use Rattle.rules.proofs.table.four_exceed.Goals as goal

pub returns : goal.returns
returns c e =
    let halves = or-false (c.exceeds.result || c.exceeds-2.result) (c.exceeds-3.result || c.exceeds-4.result) e in
    let front = or-false c.exceeds.result c.exceeds-2.result halves.0 in
    let back = or-false c.exceeds-3.result c.exceeds-4.result halves.1 in
    four_fine _ _ _ refl (sym c.exceeds.ensures ∙ front.0) (sym c.exceeds-2.ensures ∙ front.1) (sym c.exceeds-3.ensures ∙ back.0) (sym c.exceeds-4.ensures ∙ back.1)
