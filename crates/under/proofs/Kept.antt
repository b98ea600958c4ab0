-- What the rules under a sheet give when none is broken, and what the calls hand back and leave. Assumes nothing.
use Prim.Native.Nat.{ℕ, ◌*◌, ◌≤◌}
use native.Mathlib.Decide.{ℕ_discrete}
use native.Mathlib.Omega.{arith}
use mathlib.Core.Path.{◌≡◌, refl, sym, ◌∙◌}
use mathlib.Core.Bool.{true, false}
use mathlib.Core.List.{List, ◌++◌}
use lib.ListN.{length}
use borrow.Author.Tests.{ltb-false, le-ltb}
use Rattle.model.specs.Lists.{concat_map}
use Rattle.model.specs.Bytes.{Bytes, bytes16, number_size}
use Rattle.model.specs.Rules.{Rule, first_broken, network_rules, shape_rules, pair_rules, work_too_small, words_needed}
use Rattle.model.specs.Calls.{clears, cleared, work_after, route_after}
use Rattle.model.specs.declared.Answer.TheVariants.{Refused}
use Rattle.model.specs.declared.Route.{Route}
use Rattle.theory.specs.Firsts.{counted, first_append, first_stays, passed, split}
use Rattle.theory.specs.BuiltCalls.{pair_counted}
use Rattle.checks.proofs.AfterCall.{answer_refused, answer_given, unclearing, words_kept, words_cleared}
use Rattle.checks.proofs.CheckOrder.{last_kept}
use Rattle.checks.proofs.RulesKept.{PairKept, pair_kept}
use Rattle.words.specs.Frames.{KeptFrom}
use Rattle.sheet.specs.Sheet.{effects, sheet_broken}
use Rattle.sheet.specs.Under.{time_under, way_under}
use Rattle.sheet.specs.BodyRules.{sheet_rules_law}
use Rattle.sheet.specs.SheetCalls.{sheet_rules, pair_under_rules, time_under_rules, way_under_rules, time_under_refusal, time_under_result, way_under_refusal}
use Rattle.sheet.specs.SheetCalls.{WayUnderCall}
use Rattle.opened.specs.Opened.{Opened}
use Rattle.opened.specs.Room.{NodesGiven}
use Rattle.opened.proofs.Outputs.{route_refused, call_refused, call_given}
use Rattle.under.specs.Judged.{QuickLines}
use Rattle.sheet.specs.Sheet.{line_body}

-- No rule of the first is broken where none of both is.
first-kept : (xs ys : List Rule) → first_broken (xs ++ ys) ≡ 0 → first_broken xs ≡ 0
first-kept xs ys h = pick (ℕ_discrete (first_broken xs) 0)
  where
    pick : Dec (first_broken xs ≡ 0) → first_broken xs ≡ 0
    pick (yes e) = e
    pick (no d) = absurd (d (sym (first_stays xs ys d) ∙ h))

-- ---- what is kept
pub record UnderKept (o sheet : Bytes) (s t : ℕ) : Type 0 where
  pub pair : PairKept o s t
  pub form : sheet_broken sheet ≡ false
  pub quick : QuickLines o (line_body sheet)

pub under_kept : (o sheet : Bytes) (s t : ℕ) → first_broken (pair_under_rules o sheet s t) ≡ 0 → UnderKept o sheet s t
unfolding pair_under_rules
under_kept o sheet s t h =
    let p = first-kept (pair_rules o s t) (sheet_rules o sheet) h in
    let q : first_broken (sheet_rules o sheet) ≡ 0 = sym (first_append (pair_rules o s t) (sheet_rules o sheet) (pair_counted o s t) p) ∙ h in
    let a = passed 18 _ _ (omega arith) (rw (sheet_rules_law o sheet) at q) in
    let b = passed 19 _ _ (omega arith) a.1 in
    let c = passed 20 _ _ (omega arith) b.1 in
    record { pair = pair_kept o s t p; form = a.0; quick = c.0 }

pub under_counted : (o sheet : Bytes) (s t : ℕ) → counted (pair_under_rules o sheet s t) ≡ true
unfolding pair_under_rules sheet_rules pair_rules shape_rules network_rules counted
under_counted o sheet s t = refl

pub record TimeUnderKept (o sheet : Bytes) (s t words : ℕ) : Type 0 where
  pub under : UnderKept o sheet s t
  pub enough : words_needed o ≤ words

pub time_under_kept : (o sheet : Bytes) (s t words : ℕ) → first_broken (time_under_rules o sheet s t words) ≡ 0 → TimeUnderKept o sheet s t words
unfolding time_under_rules work_too_small
time_under_kept o sheet s t words h =
    let p = split (pair_under_rules o sheet s t) 14 (work_too_small o words) (under_counted o sheet s t) (omega arith) h in
    record { under = under_kept o sheet s t p.0; enough = ltb-false words (words_needed o) p.1 }

-- Over an opened oracle the rules of a time are those of its pair.
pub as_time_under : (o sheet : Bytes) (s t : ℕ) (work : List ℕ) → Opened o work → (r : ℕ) → r ≡ first_broken (pair_under_rules o sheet s t)
    → r ≡ first_broken (time_under_rules o sheet s t (length work))
unfolding time_under_rules work_too_small
as_time_under o sheet s t work h r e = e ∙ sym (last_kept (pair_under_rules o sheet s t) 14 (le-ltb (length work) (words_needed o) h.room))

-- ---- a time and a way; `r` is the first of the time's rules that is broken
module _ (o sheet : Bytes) (s t : ℕ) (work : List ℕ) (r : ℕ) (e : r ≡ first_broken (time_under_rules o sheet s t (length work))) where
  unwritten : unclearing (time_under_rules o sheet s t (length work)) ≡ true
  unfolding unclearing clears time_under_rules pair_under_rules sheet_rules pair_rules shape_rules network_rules
  unwritten = refl

  numbered : counted (time_under_rules o sheet s t (length work)) ≡ true
  unfolding time_under_rules pair_under_rules sheet_rules pair_rules shape_rules network_rules counted
  numbered = refl

  pub time_refused : (r ≡ 0 → ⊥) → Refused r ≡ time_under_result o sheet s t work
  unfolding time_under_result time_under_refusal
  time_refused h = rw (← e) (answer_refused r _ h)

  pub time_given : r ≡ 0 → time_under (effects sheet) o s t ≡ time_under_result o sheet s t work
  unfolding time_under_result time_under_refusal
  time_given z = answer_given _ _ (sym e ∙ z)

  pub time_unwritten : (r ≡ 0 → ⊥) → work ≡ work_after (time_under_refusal o sheet s t work) o work
  unfolding time_under_refusal
  time_unwritten h = rw (← e) (words_kept (time_under_rules o sheet s t (length work)) unwritten r e o work h)

  pub time_zeroed : (mid : List ℕ) → r ≡ 0 → KeptFrom (words_needed o) work mid
      → cleared (words_needed o) mid ≡ work_after (time_under_refusal o sheet s t work) o work
  unfolding time_under_refusal
  time_zeroed mid z d = words_cleared o work mid d _ (sym e ∙ z)

  module _ (out : Bytes) where
    abbrev nodes : List ℕ
    nodes = way_under (effects sheet) o s t

    pub way_refused : (r ≡ 0 → ⊥) → WayUnderCall o sheet s t work out (record { rule = r; nodes = 0 }) work out
    unfolding way_under_refusal way_under_rules
    way_refused h =
        let k = call_refused (λ k. route_after k nodes) (number_size * length nodes) (concat_map bytes16 nodes) (time_under_rules o sheet s t (length work))
        unwritten numbered r e o work out h (route_refused r nodes h) in
        record { result = k.result; words = k.words; bytes = k.bytes }

    pub way_given : r ≡ 0 → (work' mid : List ℕ) (route : Route) (out' : Bytes) → NodesGiven nodes out route out'
        → KeptFrom (words_needed o) work mid → work' ≡ cleared (words_needed o) mid → WayUnderCall o sheet s t work out route work' out'
    unfolding way_under_refusal way_under_rules
    way_given z work' mid route out' g d c =
        let k = call_given (λ k. route_after k nodes) (number_size * length nodes) (concat_map bytes16 nodes) (time_under_rules o sheet s t (length work))
        unwritten numbered r e o work out z work' mid route out' g d c in
        record { result = k.result; words = k.words; bytes = k.bytes }
