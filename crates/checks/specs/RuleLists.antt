-- The rules that several calls check first. Assumes nothing.
use Rattle.std.specs.Prelude.{ℕ, List, [], ◌∷◌, ◌++◌}
use Rattle.model.specs.Lists.{any}
use Rattle.model.specs.Bytes.{Bytes}
use Rattle.model.specs.Rules.{Rule, rule, shape_rules, no_such_node, work_too_small}

-- The rules that an oracle is opened by: 1 to 11, and 14.
unfoldable pub room_rules : Bytes → ℕ → List Rule
room_rules o words = shape_rules o ++ (rule 14 (work_too_small o words) ∷ [])

-- Rules 1 to 12, rule 12 for every node that is named.
unfoldable pub named_rules : Bytes → List ℕ → List Rule
named_rules o names = shape_rules o ++ (rule 12 (any (no_such_node o) names) ∷ [])
