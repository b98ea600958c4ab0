-- `lines::is_shut` meets its contract: by the variant.
use mathlib.Core.Path.{ap, sym, ◌∙◌}
use Rattle.sheet.specs.Codes.{effect_in}
use Rattle.sheet.proofs.Effects.{open_delayed}
use Rattle.sheet.proofs.lines.is_shut.Goals as goal

pub returns-in-Shut-clause-yes : goal.returns-in-Shut-clause-yes
unfolding effect_in
returns-in-Shut-clause-yes c e = ap effect_in c.in-Shut.is

pub returns-in_default-clause-no : goal.returns-in_default-clause-no
returns-in_default-clause-no c e z = open_delayed c.in_default.field-0 (sym (ap effect_in c.in_default.is) ∙ z)
