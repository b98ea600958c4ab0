-- The calls under a sheet: the rules that each checks, in checking order, and what it hands back and leaves. Assumes nothing.
use Rattle.std.specs.Prelude.{ℕ, ◌*◌, ◌≡◌, List, [], ◌∷◌, ◌++◌, length}
use Rattle.model.specs.Lists.{concat_map}
use Rattle.model.specs.Bytes.{Bytes, bytes16, number_size}
use Rattle.model.specs.Contents.{edge_body}
use Rattle.model.specs.Network.{edge_count}
use Rattle.model.specs.Query.{meaning}
use Rattle.model.specs.Rules.{Rule, rule, first_broken, pair_rules, work_too_small, output_too_small}
use Rattle.model.specs.Calls.{work_after, output_after, answer_after, route_after}
use Rattle.model.specs.declared.Answer.{Answer}
use Rattle.model.specs.declared.Route.{Route}
use Rattle.sheet.specs.Sheet.{effects, sheet_broken, names_broken}
use Rattle.sheet.specs.Under.{slow_broken, time_under, way_under}

-- "18 .., 19 .., 20 .., all directly after 12 in that order."
unfoldable pub sheet_rules : Bytes → Bytes → List Rule
sheet_rules o sheet =
    rule 18 (sheet_broken sheet) ∷
    rule 19 (names_broken (edge_count (edge_body o)) sheet) ∷
    rule 20 (slow_broken (effects sheet) o) ∷ []

unfoldable pub pair_under_rules : Bytes → Bytes → ℕ → ℕ → List Rule
pair_under_rules o sheet s t = pair_rules o s t ++ sheet_rules o sheet

-- The time under a sheet checks 1 to 12, 18 to 20 and 14; the way under a sheet also 15.
unfoldable pub time_under_rules : Bytes → Bytes → ℕ → ℕ → ℕ → List Rule
time_under_rules o sheet s t words = pair_under_rules o sheet s t ++ (rule 14 (work_too_small o words) ∷ [])

unfoldable pub way_under_rules : Bytes → Bytes → ℕ → ℕ → ℕ → ℕ → List Rule
way_under_rules o sheet s t words room =
    time_under_rules o sheet s t words ++ (rule 15 (output_too_small (number_size * length (way_under (effects sheet) o s t)) room) ∷ [])

-- ---- the time under a sheet

unfoldable pub time_under_refusal : Bytes → Bytes → ℕ → ℕ → List ℕ → ℕ
time_under_refusal o sheet s t work = first_broken (time_under_rules o sheet s t (length work))

unfoldable pub time_under_result : Bytes → Bytes → ℕ → ℕ → List ℕ → Answer
time_under_result o sheet s t work = answer_after (time_under_refusal o sheet s t work) (time_under (effects sheet) o s t)

pub record TimeUnderCall (o sheet : Bytes) (s t : ℕ) (work : List ℕ) (r : Answer) (work' : List ℕ) : Type 0 where
  pub result : meaning r ≡ meaning (time_under_result o sheet s t work)
  pub words : work' ≡ work_after (time_under_refusal o sheet s t work) o work

-- ---- the way under a sheet

unfoldable pub way_under_refusal : Bytes → Bytes → ℕ → ℕ → List ℕ → Bytes → ℕ
way_under_refusal o sheet s t work out = first_broken (way_under_rules o sheet s t (length work) (length out))

pub record WayUnderCall (o sheet : Bytes) (s t : ℕ) (work : List ℕ) (out : Bytes) (r : Route) (work' : List ℕ) (out' : Bytes) : Type 0 where
  pub result : r ≡ route_after (way_under_refusal o sheet s t work out) (way_under (effects sheet) o s t)
  pub words : work' ≡ work_after (way_under_refusal o sheet s t work out) o work
  pub bytes : out' ≡ output_after (way_under_refusal o sheet s t work out) (concat_map bytes16 (way_under (effects sheet) o s t)) out
