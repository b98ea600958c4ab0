-- Rules 18 to 20 over the body of the edges, as the code checks them. Assumes nothing.
use Rattle.std.specs.Prelude.{◌≡◌, refl, List, [], ◌∷◌}
use Rattle.model.specs.Lists.{any}
use Rattle.model.specs.Bytes.{Bytes}
use Rattle.model.specs.Contents.{edge_body}
use Rattle.model.specs.Network.{edge_count}
use Rattle.model.specs.Rules.{Rule, rule}
use Rattle.sheet.specs.Sheet.{lines_in, line_body, effects, sheet_broken, names_none, names_broken}
use Rattle.sheet.specs.Under.{network_under, too_slow, slow_broken}
use Rattle.sheet.specs.ArcsUnder.{left_under}
use Rattle.sheet.specs.SheetCalls.{sheet_rules}

abbrev pub body_sheet_rules : Bytes → Bytes → List Rule
body_sheet_rules edges sheet =
    rule 18 (sheet_broken sheet) ∷
    rule 19 (any (names_none (edge_count edges)) (lines_in (line_body sheet))) ∷
    rule 20 (any too_slow (left_under edges (line_body sheet))) ∷ []

-- They are those of the calls.
pub sheet_rules_law : (o sheet : Bytes) → sheet_rules o sheet ≡ body_sheet_rules (edge_body o) sheet
unfolding sheet_rules names_broken slow_broken network_under left_under effects
sheet_rules_law o sheet = refl
