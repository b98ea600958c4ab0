-- What T-05 is held against: the rule of before it, the calls by any rule, and the sheets under which answers can change. Nothing but the theorem of
-- `SheetAnswers` (proofs/) on what stayed goes by this. Assumes nothing.
use Rattle.std.specs.Prelude.{ℕ, ◌*◌, ◌≡◌, true, false, List, [], ◌∷◌, ◌++◌, length}
use Rattle.model.specs.Lists.{concat_map}
use Rattle.model.specs.Bytes.{Bytes, bytes16, number_size}
use Rattle.model.specs.Contents.{edge_body}
use Rattle.model.specs.Network.{edge_count}
use Rattle.model.specs.Query.{meaning}
use Rattle.model.specs.Rules.{Rule, rule, first_broken, pair_rules, work_too_small, output_too_small}
use Rattle.model.specs.Calls.{work_after, output_after, answer_after, route_after}
use Rattle.model.specs.declared.Answer.{Answer}
use Rattle.model.specs.declared.Route.{Route}
use Rattle.sheet.specs.Sheet.{Line, Effect, Effect.delayed, lines_in, line_body, closes, about, last_effect, NoneCloses, sheet_broken, names_broken}
use Rattle.sheet.specs.Under.{slow_broken, time_under, way_under}

-- ---- the former rule

-- T-03: "The last line about a road holds." What the lines did to edge i.
unfoldable pub last_holds : List Line → ℕ → Effect
last_holds ls i = last_effect (delayed 0) (about ls i)

-- What a sheet did to edge i.
unfoldable pub formerly : Bytes → ℕ → Effect
formerly sheet = last_holds (lines_in (line_body sheet))

-- ---- the sheets: "where a delay follows a closure of its road and no later line closes it"

pub record Reopened (ls : List Line) (i : ℕ) : Type 0 where
  pub before : List Line
  pub closure : Line
  pub between : List Line
  pub delay : Line
  pub after : List Line
  pub all : ls ≡ before ++ (closure ∷ (between ++ (delay ∷ after)))
  pub closure_named : closure.edge ≡ i
  pub shuts : closes closure ≡ true
  pub delay_named : delay.edge ≡ i
  pub delays : closes delay ≡ false
  pub never : NoneCloses after i

-- Some road of the sheet is so.
abbrev pub Reopening : Bytes → Type 0
Reopening sheet = (i : ℕ) × Reopened (lines_in (line_body sheet)) i

-- ---- the calls by any rule: as in sheet, SheetCalls, with `effect` in the place of `effects sheet`

unfoldable pub time_rules_by : (ℕ → Effect) → Bytes → Bytes → ℕ → ℕ → ℕ → List Rule
time_rules_by effect o sheet s t words =
    pair_rules o s t ++
    (rule 18 (sheet_broken sheet) ∷ rule 19 (names_broken (edge_count (edge_body o)) sheet) ∷ rule 20 (slow_broken effect o) ∷ []) ++
    (rule 14 (work_too_small o words) ∷ [])

unfoldable pub time_refusal_by : (ℕ → Effect) → Bytes → Bytes → ℕ → ℕ → List ℕ → ℕ
time_refusal_by effect o sheet s t work = first_broken (time_rules_by effect o sheet s t (length work))

pub record TimeBy (effect : ℕ → Effect) (o sheet : Bytes) (s t : ℕ) (work : List ℕ) (r : Answer) (work' : List ℕ) : Type 0 where
  pub result : meaning r ≡ meaning (answer_after (time_refusal_by effect o sheet s t work) (time_under effect o s t))
  pub words : work' ≡ work_after (time_refusal_by effect o sheet s t work) o work

unfoldable pub way_refusal_by : (ℕ → Effect) → Bytes → Bytes → ℕ → ℕ → List ℕ → Bytes → ℕ
way_refusal_by effect o sheet s t work out =
    first_broken (time_rules_by effect o sheet s t (length work) ++
    (rule 15 (output_too_small (number_size * length (way_under effect o s t)) (length out)) ∷ []))

pub record WayBy (effect : ℕ → Effect) (o sheet : Bytes) (s t : ℕ) (work : List ℕ) (out : Bytes) (r : Route) (work' : List ℕ) (out' : Bytes) : Type 0 where
  pub result : r ≡ route_after (way_refusal_by effect o sheet s t work out) (way_under effect o s t)
  pub words : work' ≡ work_after (way_refusal_by effect o sheet s t work out) o work
  pub bytes : out' ≡ output_after (way_refusal_by effect o sheet s t work out) (concat_map bytes16 (way_under effect o s t)) out
