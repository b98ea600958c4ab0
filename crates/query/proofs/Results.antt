-- What the calls and the questions hand back and leave, after a refusal and after none. Assumes nothing.
use Prim.Native.Nat.{ℕ, ◌*◌}
use mathlib.Core.Path.{◌≡◌, refl, sym, ◌∙◌}
use mathlib.Core.Bool.{true, cond}
use mathlib.Core.List.{List, []}
use lib.ListN.{length}
use lib.Dec.{eqb}
use borrow.Author.Tests.{ne_eqb}
use Rattle.model.specs.Lists.{concat_map}
use Rattle.model.specs.Bytes.{Bytes, bytes16, number_size}
use Rattle.model.specs.Network.{network}
use Rattle.model.specs.Query.{way, time_answer}
use Rattle.model.specs.Rules.{first_broken, network_rules, shape_rules, pair_rules, time_rules, way_rules, words_needed}
use Rattle.model.specs.Calls.{clears, cleared, work_after, route_after, time_result, time_refusal, way_refusal, WayCall}
use Rattle.model.specs.declared.Answer.TheVariants.{Refused}
use Rattle.model.specs.declared.Route.{Route}
use Rattle.theory.specs.BuiltCalls.{time_counted}
use Rattle.checks.proofs.AfterCall.{answer_refused, answer_given, unclearing, words_kept, words_cleared}
use Rattle.checks.proofs.RulesKept.{time_roomy}
use Rattle.opened.specs.Opened.{Opened}
use Rattle.opened.specs.Room.{WayGiven}
use Rattle.opened.proofs.Outputs.{route_refused, call_refused, call_given}
use Rattle.words.specs.Frames.{KeptFrom}

-- ---- the part that a list is
pub part_refused : (rule : ℕ) (b : Bytes) → (rule ≡ 0 → ⊥) → [] ≡ cond (eqb rule 0) b []
part_refused rule b h = rw (ne_eqb rule 0 h)

pub part_given : (rule : ℕ) (b : Bytes) → rule ≡ 0 → b ≡ cond (eqb rule 0) b []
part_given rule b e = rw e

-- ---- a time and a way; `r` is the first of the time's rules that is broken
module _ (o : Bytes) (s t : ℕ) (work : List ℕ) (r : ℕ) (e : r ≡ first_broken (time_rules o s t (length work))) where
  unwritten : unclearing (time_rules o s t (length work)) ≡ true
  unfolding unclearing clears time_rules pair_rules shape_rules network_rules
  unwritten = refl

  pub time_refused : (r ≡ 0 → ⊥) → Refused r ≡ time_result o s t work
  unfolding time_result time_refusal
  time_refused h = rw (← e) (answer_refused r _ h)

  pub time_given : r ≡ 0 → time_answer o s t ≡ time_result o s t work
  unfolding time_result time_refusal
  time_given z = answer_given _ _ (sym e ∙ z)

  pub time_unwritten : (r ≡ 0 → ⊥) → work ≡ work_after (time_refusal o s t work) o work
  unfolding time_refusal
  time_unwritten h = rw (← e) (words_kept (time_rules o s t (length work)) unwritten r e o work h)

  pub time_zeroed : (mid : List ℕ) → r ≡ 0 → KeptFrom (words_needed o) work mid
      → cleared (words_needed o) mid ≡ work_after (time_refusal o s t work) o work
  unfolding time_refusal
  time_zeroed mid z d = words_cleared o work mid d _ (sym e ∙ z)

  module _ (out : Bytes) where
    abbrev nodes : List ℕ
    nodes = way (network o) s t

    pub way_refused : (r ≡ 0 → ⊥) → WayCall o s t work out (record { rule = r; nodes = 0 }) work out
    unfolding way_refusal way_rules
    way_refused h =
        let k = call_refused (λ k. route_after k nodes) (number_size * length nodes) (concat_map bytes16 nodes) (time_rules o s t (length work)) unwritten
        (time_counted o s t (length work)) r e o work out h (route_refused r nodes h) in
        record { result = k.result; words = k.words; bytes = k.bytes }

    pub way_given : (work' mid : List ℕ) (route : Route) (out' : Bytes) → r ≡ 0 → WayGiven o s t out route out'
        → KeptFrom (words_needed o) work mid → work' ≡ cleared (words_needed o) mid → WayCall o s t work out route work' out'
    unfolding way_refusal way_rules
    way_given work' mid route out' z g d c =
        let k = call_given (λ k. route_after k nodes) (number_size * length nodes) (concat_map bytes16 nodes) (time_rules o s t (length work)) unwritten
        (time_counted o s t (length work)) r e o work out z work' mid route out' g d c in
        record { result = k.result; words = k.words; bytes = k.bytes }

-- Over an opened oracle the rules of a time are those of its pair.
pub as_time : (o : Bytes) (s t : ℕ) (work : List ℕ) → Opened o work → (r : ℕ) → r ≡ first_broken (pair_rules o s t)
    → r ≡ first_broken (time_rules o s t (length work))
as_time o s t work h r e = e ∙ sym (time_roomy o s t (length work) h.room)
