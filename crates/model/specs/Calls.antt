-- Each call: its result, its working words afterwards, and its output afterwards. Assumes nothing.
use Rattle.std.specs.Prelude.{ℕ, ◌≡◌, Bool, ◌||◌, cond, List, [], ◌++◌, length, drop, replicate, eqb}
use Rattle.model.specs.Lists.{concat_map}
use Rattle.model.specs.Bytes.{Bytes, bytes16}
use Rattle.model.specs.Network.{network}
use Rattle.model.specs.Oracle.{oracle, transit_of}
use Rattle.model.specs.Query.{meaning, time_answer, far_answer, list_of, way}
use Rattle.model.specs.Rules.{first_broken, words_needed, build_rules, audit_rules, time_rules, far_rules, list_rules, way_rules}
use Rattle.model.specs.declared.Answer.{Answer}
use Rattle.model.specs.declared.Answer.TheVariants.{Refused}
use Rattle.model.specs.declared.Built.{Built}
use Rattle.model.specs.declared.Division.{Division}
use Rattle.model.specs.declared.Output.{Output}
use Rattle.model.specs.declared.Route.{Route}

-- ---- what the number of the broken rule, or 0, does to what the caller lent

-- "1 to 14 write nothing; 15 and 16 set the first 8 × N working words to zero and leave output alone. Success zeroes those words where the call
-- has them, writes any result at the front of output and touches nothing past either."
unfoldable pub clears : ℕ → Bool
clears rule = eqb rule 0 || eqb rule 15 || eqb rule 16

unfoldable pub cleared : ℕ → List ℕ → List ℕ
cleared n work = replicate n 0 ++ drop n work

unfoldable pub work_after : ℕ → Bytes → List ℕ → List ℕ
work_after rule f work = cond (clears rule) (cleared (words_needed f) work) work

-- Only success writes output: the result at its front.
unfoldable pub output_after : ℕ → Bytes → Bytes → Bytes
output_after rule result out = cond (eqb rule 0) (result ++ drop (length result) out) out

-- "A call that writes output hands back its length in bytes where nothing else is said" (document 02, T-04).
unfoldable pub size_after : ℕ → Bytes → Output
size_after rule result = cond (eqb rule 0) (record { rule = 0; size = length result }) (record { rule = rule; size = 0 })

unfoldable pub answer_after : ℕ → Answer → Answer
answer_after rule answer = cond (eqb rule 0) answer (Refused rule)

-- ---- building

unfoldable pub build_refusal : Bytes → Division → List ℕ → Bytes → ℕ
build_refusal f dv work out = first_broken (build_rules f dv (length work) (length out))

unfoldable pub built_after : ℕ → Bytes → Division → Built
built_after rule f dv =
    cond (eqb rule 0)
    (record { rule = 0; size = length (oracle f dv); transit = length (transit_of f dv) })
    (record { rule = rule; size = 0; transit = 0 })

pub record Build (f : Bytes) (dv : Division) (work : List ℕ) (out : Bytes) (r : Built) (work' : List ℕ) (out' : Bytes) : Type 0 where
  pub result : r ≡ built_after (build_refusal f dv work out) f dv
  pub words : work' ≡ work_after (build_refusal f dv work out) f work
  pub bytes : out' ≡ output_after (build_refusal f dv work out) (oracle f dv) out

-- ---- the audit, whose result is the number alone

unfoldable pub audit_refusal : Bytes → List ℕ → ℕ
audit_refusal o work = first_broken (audit_rules o (length work))

pub record Audit (o : Bytes) (work : List ℕ) (r : ℕ) (work' : List ℕ) : Type 0 where
  pub result : r ≡ audit_refusal o work
  pub words : work' ≡ work_after (audit_refusal o work) o work

-- ---- the time

unfoldable pub time_refusal : Bytes → ℕ → ℕ → List ℕ → ℕ
time_refusal o s t work = first_broken (time_rules o s t (length work))

unfoldable pub time_result : Bytes → ℕ → ℕ → List ℕ → Answer
time_result o s t work = answer_after (time_refusal o s t work) (time_answer o s t)

pub record TimeCall (o : Bytes) (s t : ℕ) (work : List ℕ) (r : Answer) (work' : List ℕ) : Type 0 where
  pub result : meaning r ≡ meaning (time_result o s t work)
  pub words : work' ≡ work_after (time_refusal o s t work) o work

-- ---- the far question, which has no working words and no output

unfoldable pub far_result : Bytes → ℕ → ℕ → Answer
far_result o s t = answer_after (first_broken (far_rules o s t)) (far_answer o s t)

pub record FarCall (o : Bytes) (s t : ℕ) (r : Answer) : Type 0 where
  pub result : meaning r ≡ meaning (far_result o s t)

-- ---- the list of a node, and why it is refused

unfoldable pub list_refusal : Bytes → ℕ → ℕ
list_refusal o u = first_broken (list_rules o u)

unfoldable pub list_result : Bytes → ℕ → Bytes
list_result o u = cond (eqb (list_refusal o u) 0) (list_of o u) []

-- ---- the way

unfoldable pub way_refusal : Bytes → ℕ → ℕ → List ℕ → Bytes → ℕ
way_refusal o s t work out = first_broken (way_rules o s t (length work) (length out))

unfoldable pub route_after : ℕ → List ℕ → Route
route_after rule nodes = cond (eqb rule 0) (record { rule = 0; nodes = length nodes }) (record { rule = rule; nodes = 0 })

pub record WayCall (o : Bytes) (s t : ℕ) (work : List ℕ) (out : Bytes) (r : Route) (work' : List ℕ) (out' : Bytes) : Type 0 where
  pub result : r ≡ route_after (way_refusal o s t work out) (way (network o) s t)
  pub words : work' ≡ work_after (way_refusal o s t work out) o work
  pub bytes : out' ≡ output_after (way_refusal o s t work out) (concat_map bytes16 (way (network o) s t)) out
