-- Two well-shaped oracles that agree in bodies 1 and 4 to 7 give one far answer. Assumes nothing.
use Rattle.std.specs.Prelude.{ℕ, ◌≡◌, ◌||◌, List, [], ◌∷◌}
use Rattle.std.proofs.Common.{◌∙◌, ap, append_assoc}
use Rattle.model.specs.Bytes.{Bytes}
use Rattle.model.specs.Query.{far_answer, kind_between}
use Rattle.model.specs.Rules.{Rule, rule, first_broken, shape_rules, pair_rules, far_rules, no_such_node, local_pair}
use Rattle.model.specs.Calls.{far_result}
use Rattle.theory.specs.Firsts.{first_append}
use Rattle.theory.specs.Passed.{shape_counted}
use Rattle.demands.specs.Outcomes.{Agree}

-- the rules of the far question past 11
abbrev own : Bytes → ℕ → ℕ → List Rule
own o s t = rule 12 (no_such_node o s || no_such_node o t) ∷ rule 13 (local_pair o s t) ∷ []

past : (o : Bytes) (s t : ℕ) → first_broken (shape_rules o) ≡ 0 → first_broken (far_rules o s t) ≡ first_broken (own o s t)
unfolding far_rules pair_rules
past o s t h = ap first_broken (append_assoc (shape_rules o) (rule 12 (no_such_node o s || no_such_node o t) ∷ []) (rule 13 (local_pair o s t) ∷ []))
    ∙ first_append (shape_rules o) (own o s t) (shape_counted o) h

pub one_far_answer : (o p : Bytes) → first_broken (shape_rules o) ≡ 0 → first_broken (shape_rules p) ≡ 0 → Agree o p → (s t : ℕ) → far_result o s t ≡ far_result p s t
unfolding far_result far_answer no_such_node local_pair kind_between
one_far_answer o p ho hp a s t = rw (past o s t ho, past p s t hp, a.nodes, a.grid, a.transit, a.access, a.table)

-- The same of a pair that is far, answered without a check.
pub far_body_answer : (o p : Bytes) → Agree o p → (s t : ℕ) → far_answer o s t ≡ far_answer p s t
unfolding far_answer
far_body_answer o p a s t = rw (a.transit, a.access, a.table)

pub kind_alike : (o p : Bytes) → Agree o p → (s t : ℕ) → kind_between o s t ≡ kind_between p s t
unfolding kind_between
kind_alike o p a s t = rw (a.nodes, a.grid)
