-- A sheet without lines: neither call can be told from the one without a sheet. Assumes nothing.
use Prim.Native.Nat.{ℕ}
use Rattle.std.proofs.Math.Decide.{ℕ_discrete}
use Rattle.std.specs.Prelude.{◌≡◌, false, cond, ◌||◌, List, length}
use Rattle.std.proofs.Math.Path.{refl, sym}
use Rattle.std.proofs.Common.{◌∙◌, ap}
use Rattle.std.proofs.Math.Bool.{true}
use borrow.Author.Tests.{ne_eqb}
use Rattle.model.specs.Bytes.{Bytes}
use Rattle.model.specs.Pair.{Pair}
use Rattle.model.specs.Walk.{PairWalk}
use Rattle.model.specs.Distance.{Distance, unreachable, finite}
use Rattle.model.specs.Network.{network, timed_arcs, arcs, distance}
use Rattle.model.specs.Query.{answer, rule_of, kind_between, answer_of, time_answer, far_answer, local_answer, way}
use Rattle.model.proofs.Meanings.{meaning_injective}
use Rattle.model.specs.Rules.{first_broken, time_rules}
use Rattle.model.specs.Calls.{answer_after, time_refusal, time_result, TimeCall, way_refusal, WayCall}
use Rattle.model.specs.declared.Kind.{Kind}
use Rattle.model.specs.declared.Kind.TheVariants.{Far, Local}
use Rattle.model.specs.declared.Answer.{Answer}
use Rattle.model.specs.declared.Answer.TheVariants.{Time, None, Refused}
use Rattle.model.specs.declared.Route.{Route}
use Rattle.theory.specs.Passed.{all_shaped}
use Rattle.theory.specs.Sound.{count_nodes}
use Rattle.demands.specs.Outcomes.{timed}
use Rattle.demands.specs.CallLaws as laws
use Rattle.sheet.specs.Sheet.{effects, line_count, line_body, sheet_broken}
use Rattle.sheet.specs.Under.{still_driven, is_none, old_stands, time_under}
use Rattle.sheet.specs.SheetCalls.{time_under_rules, time_under_refusal, time_under_result, TimeUnderCall, way_under_refusal, WayUnderCall}
use Rattle.sheet_demands.specs.SheetOutcomes.{HasWay}
use Rattle.sheet_demands.specs.LineLaws.{empty_network}
use Rattle.sheet_demands.specs.UnderLaws as under
use Rattle.sheet_demands.specs.UnderCalls as calls

-- What the questions answer is no refusal.
abbrev IsGiven : Answer → Type 0
IsGiven (Time n hops kind pairs) = Unit {0}
IsGiven (None kind pairs) = Unit {0}
IsGiven (Refused r) = ⊥

is_given : (kind : Kind) (pairs : ℕ) (d : Distance) → IsGiven (answer kind pairs d)
unfolding answer
is_given kind pairs unreachable = tt
is_given kind pairs (finite n) = tt

time_given : (o : Bytes) (s t : ℕ) → IsGiven (time_answer o s t)
unfolding time_answer
time_given o s t = by_kind (kind_between o s t)
  where
    by_kind : (kind : Kind) → IsGiven (answer_of kind o s t)
    by_kind Far = unfold answer_of far_answer in is_given Far _ _
    by_kind Local = unfold answer_of local_answer in is_given Local _ _

module _ (o sheet : Bytes) (formed : sheet_broken sheet ≡ false) (empty : line_count (line_body sheet) ≡ 0) (s t : ℕ) where
  -- Of no route, words or output can be told whether there was a sheet.
  pub empty_way : {work work' plain_work : List ℕ} {out out' plain_out : Bytes} {r plain_r : Route} → WayUnderCall o sheet s t work out r work' out'
      → WayCall o s t work out plain_r plain_work plain_out → (r ≡ plain_r) × (work' ≡ plain_work) × (out' ≡ plain_out)
  unfolding way_under_refusal way_refusal
  empty_way {work} {out = out} call old =
      let k = calls.route_same o sheet formed empty s t (length work) (length out) in
      let w = calls.way_same o sheet formed empty s t in
      (call.result ∙ rw (k, w) (sym old.result), call.words ∙ rw k (sym old.words), call.bytes ∙ rw (k, w) (sym old.bytes))

  empty_answer : calls.Asked o s t → HasWay o s t (time_answer o s t) → time_under (effects sheet) o s t ≡ time_answer o s t
  unfolding time_under old_stands is_none
  empty_answer asked found = rw (empty_network sheet empty o) (step (time_answer o s t) refl (time_given o s t))
    where
      old_driven : (p : Pair) → PairWalk (timed_arcs (network o)) s t p
          → still_driven (λ v. distance (network o) v t) (arcs (network o)) (way (network o) s t) ≡ true
      old_driven p w =
          under.driven_old (effects sheet) o (all_shaped o asked.shaped).sound s t (rw (count_nodes o) asked.hs) (rw (count_nodes o) asked.ht) w

      step : (x : Answer) → time_answer o s t ≡ x → IsGiven x
          → cond (is_none x || still_driven (λ v. distance (network o) v t) (arcs (network o)) (way (network o) s t)) x (local_answer (network o) s t) ≡ x
      step (Time seconds hops kind pairs) e g =
          let (p, w) = found (record { seconds = seconds; hops = hops }) pairs kind e in
          rw (old_driven p w)
      step (None kind pairs) e g = refl
      step (Refused r) e g = absurd g

  pub empty_time : {work work' plain_work : List ℕ} {a b : Answer} → TimeUnderCall o sheet s t work a work' → TimeCall o s t work b plain_work
      → HasWay o s t b → (a ≡ b) × (work' ≡ plain_work)
  unfolding time_under_refusal time_refusal time_under_result time_result answer_after
  empty_time {work} {a = a} {b = b} call old found =
      (pick (ℕ_discrete (first_broken (time_rules o s t (length work))) 0), call.words ∙ rw same (sym old.words))
    where
      same : first_broken (time_under_rules o sheet s t (length work)) ≡ first_broken (time_rules o s t (length work))
      same = calls.time_same o sheet formed empty s t (length work)

      here : a ≡ answer_after (first_broken (time_rules o s t (length work))) (time_under (effects sheet) o s t)
      here = unfold answer_after time_under_result time_under_refusal in meaning_injective _ _ call.result ∙ rw same

      there : b ≡ answer_after (first_broken (time_rules o s t (length work))) (time_answer o s t)
      there = unfold answer_after time_result time_refusal in meaning_injective _ _ old.result

      pick : Dec (first_broken (time_rules o s t (length work)) ≡ 0) → a ≡ b
      pick (yes e) =
          let q : b ≡ time_answer o s t = there ∙ (unfold answer_after in rw e) in
          let p : a ≡ time_under (effects sheet) o s t = here ∙ (unfold answer_after in rw e) in
          p ∙ (empty_answer (calls.time_asked o s t (length work) e) (λ p pairs kind z. found p pairs kind (q ∙ z)) ∙ sym q)
      pick (no n) =
          let refused = ne_eqb (first_broken (time_rules o s t (length work))) 0 n in
          let k : ℕ = first_broken (time_rules o s t (length work)) in
          let p : a ≡ Refused k = here ∙ (unfold answer_after in rw refused) in
          let q : b ≡ Refused k = there ∙ (unfold answer_after in rw refused) in
          p ∙ sym q

-- A time is not answered past a broken rule.
time_zero : {b : Answer} {p : Pair} {pairs : ℕ} {kind : Kind} → b ≡ timed p kind pairs → rule_of b ≡ 0
unfolding rule_of
time_zero e = rw e

pub answered : {o : Bytes} {s t : ℕ} {words words' : List ℕ} {b : Answer} {p : Pair} {pairs : ℕ} {kind : Kind} → TimeCall o s t words b words'
    → b ≡ timed p kind pairs → calls.Asked o s t × (time_answer o s t ≡ timed p kind pairs)
unfolding time_result time_refusal answer_after
answered {o} {s} {t} {words} {b = b} call e =
    let k : ℕ = first_broken (time_rules o s t (length words)) in
    let p : b ≡ answer_after k (time_answer o s t) = meaning_injective _ _ call.result in
    let z : k ≡ 0 = sym (laws.time_rule k o s t) ∙ (sym (ap rule_of p) ∙ time_zero e) in
    let q : b ≡ time_answer o s t = rw z at p in
    (calls.time_asked o s t (length words) z, sym q ∙ e)
