-- Of what `SheetDemands` and proofs/SheetAnswers.antt state of the calls, the proofs. Those that rest on `Driven`, and those of the answers over what
-- building hands over, are in proofs/, OldWays and BuiltLaws. Assumes nothing.
use Rattle.std.specs.Prelude.{ℕ, ◌*◌, ◌≤◌, ◌<◌, ◌≡◌, refl, Bool, cond, List, [], length}
use Rattle.std.proofs.Math.Path.{sym, ap}
use Rattle.std.proofs.Common.{◌∙◌}
use Rattle.std.proofs.Math.Bool.{true, false}
use Rattle.model.specs.Lists.{concat_map}
use Rattle.model.specs.Bytes.{Bytes, bytes16}
use Rattle.model.specs.Contents.{node_body}
use Rattle.model.specs.Pair.{Pair}
use Rattle.model.specs.Walk.{PairWalk, LeastPair}
use Rattle.model.specs.Distance.{IsLeastPair}
use Rattle.model.specs.Network.{Network, network, node_count, order, timed_arcs, distance, max_nodes}
use Rattle.model.specs.Query.{rule_of, distance_of, kind_between, time_answer, local_answer, way}
use Rattle.model.proofs.Meanings.{meaning_injective}
use Rattle.model.specs.Rules.{first_broken, well_shaped, words_needed}
use Rattle.model.specs.Calls.{output_after, answer_after, route_after, Build, TimeCall}
use Rattle.model.specs.declared.Division.{Division}
use Rattle.model.specs.declared.Kind.{Kind}
use Rattle.model.specs.declared.Kind.TheVariants.{Local}
use Rattle.model.specs.declared.Answer.{Answer}
use Rattle.model.specs.declared.Answer.TheVariants.{Refused}
use Rattle.model.specs.declared.Built.{Built}
use Rattle.model.specs.declared.Route.{Route}
use Rattle.theory.specs.Passed.{Sound, all_shaped}
use Rattle.theory.specs.Sound.{few, count_nodes}
use Rattle.theory.specs.Given.{rule_of_law}
use Rattle.demands.specs.Outcomes.{Refuses, handed, pairs_tried, timed, Answers, WayWritten}
use Rattle.demands.proofs.CallLaws as laws
use Rattle.demands.proofs.AnswerLaws.{time_answers}
use Rattle.demands.proofs.Written as written
use Rattle.demands.specs.DemandLaws as demands
use Rattle.sheet.specs.Sheet.{effects, line_count, line_body, sheet_broken}
use Rattle.sheet.specs.Under.{network_under, old_stands, time_under, way_under}
use Rattle.sheet.specs.SheetCalls.{sheet_rules, time_under_rules, way_under_rules, time_under_refusal, time_under_result, TimeUnderCall, way_under_refusal, WayUnderCall}
use Rattle.sheet_demands.specs.SheetOutcomes.{roads, kind_under, pairs_under}
use Rattle.sheet_demands.specs.Changed.{sane, same_order}
use Rattle.sheet_demands.specs.UnderLaws as under
use Rattle.sheet_demands.specs.UnderCalls as calls
use Rattle.sheet_demands.specs.EmptySheets.{empty_time, answered}

-- ---- refusals
time_rule : (o : Bytes) (s t : ℕ) → rule_of (time_answer o s t) ≡ 0
time_rule o s t = unfold answer_after in laws.time_rule 0 o s t

under_rule : (o sheet : Bytes) (s t : ℕ) → rule_of (time_under (effects sheet) o s t) ≡ 0
unfolding time_under
under_rule o sheet s t = step (old_stands (effects sheet) o s t)
  where
    step : (b : Bool) → rule_of (cond b (time_answer o s t) (local_answer (network_under (effects sheet) o) s t)) ≡ 0
    step true = time_rule o s t
    step false = unfold local_answer in rule_of_law Local 0 (distance (network_under (effects sheet) o) s t)

pub time_under_refuses : {o sheet : Bytes} {s t : ℕ} {work work' : List ℕ} {a : Answer} → TimeUnderCall o sheet s t work a work'
    → Refuses (time_under_rules o sheet s t (length work)) (rule_of a) o work work' [] []
unfolding time_under_refusal time_under_result answer_after
time_under_refuses {o} {sheet} {s} {t} {work} {work'} {a} call =
    let k : ℕ = first_broken (time_under_rules o sheet s t (length work)) in
    let x : Answer = time_under (effects sheet) o s t in
    let number : rule_of (answer_after k x) ≡ k = laws.after k rule_of x (Refused k) (under_rule o sheet s t) (unfold rule_of in refl) in
    let e : rule_of a ≡ k = ap rule_of (meaning_injective _ _ call.result) ∙ number in
    rw (e, call.words) (laws.without_output (time_under_rules o sheet s t (length work)) o work)

pub way_under_refuses : {o sheet : Bytes} {s t : ℕ} {work work' : List ℕ} {out out' : Bytes} {r : Route} → WayUnderCall o sheet s t work out r work' out'
    → Refuses (way_under_rules o sheet s t (length work) (length out)) r.rule o work work' out out'
unfolding way_under_refusal
way_under_refuses {o} {sheet} {s} {t} {work} {work'} {out} {out'} {r} call =
    let rules = way_under_rules o sheet s t (length work) (length out) in
    let nodes : List ℕ = way_under (effects sheet) o s t in
    let e : r.rule ≡ first_broken rules = ap (λ (x : Route). x.rule) call.result ∙ laws.route_rule (first_broken rules) nodes in
    rw (e, call.words, call.bytes) (laws.refuses rules o work (concat_map bytes16 nodes) out)

-- ---- any well-shaped oracle, built or not
module _ (o : Bytes) (shaped : well_shaped o ≡ true) (sheet : Bytes) (s t : ℕ) (hs : s < node_count (node_body o)) (ht : t < node_count (node_body o)) where
  sound : Sound o
  sound = (all_shaped o shaped).sound

  below : t < order (network o)
  below = rw (count_nodes o) ht

  start : s < order (network o)
  start = rw (count_nodes o) hs

  module _ (kept : first_broken (sheet_rules o sheet) ≡ 0) where
    module _ {words words' : List ℕ} {a : Answer} (query : TimeUnderCall o sheet s t words a words') (enough : words_needed o ≤ length words) where
      time_is : a ≡ time_under (effects sheet) o s t
      unfolding time_under_result answer_after
      time_is = meaning_injective _ _ query.result ∙ rw (calls.time_kept o shaped sheet kept s t hs ht words enough)

      pub time_stands : old_stands (effects sheet) o s t ≡ true → {others others' : List ℕ} {b : Answer} → TimeCall o s t others b others'
          → words_needed o ≤ length others → a ≡ b
      unfolding time_under
      time_stands e time many = time_is ∙ (rw e (sym (demands.time_is o shaped s t hs ht time many)))

      pub time_searched : old_stands (effects sheet) o s t ≡ false → Answers (PairWalk (roads o sheet) s t) Local 0 a
      unfolding time_under
      time_searched e = rw (time_is, e) (under.searched (effects sheet) o sound s t start below)

      -- Where the old answer was the least over the old roads, this is the least over those that the sheet leaves.
      pub time_least : IsLeastPair (PairWalk (timed_arcs (network o)) s t) (distance_of (time_answer o s t))
          → Answers (PairWalk (roads o sheet) s t) (kind_under o sheet s t) (pairs_under o sheet s t) a
      unfolding time_under
      time_least l = rw time_is (step (old_stands (effects sheet) o s t) refl)
        where
          step : (b : Bool) → old_stands (effects sheet) o s t ≡ b
              → Answers (PairWalk (roads o sheet) s t) (cond b (kind_between o s t) Local) (cond b (pairs_tried (kind_between o s t) o s t) 0)
              (cond b (time_answer o s t) (local_answer (network_under (effects sheet) o) s t))
          step true e = time_answers (PairWalk (roads o sheet) s t) o s t (under.stood (effects sheet) o sound s t start below l e)
          step false e = under.searched (effects sheet) o sound s t start below

    module _ {words words' : List ℕ} {room room' : Bytes} {route : Route} (query : WayUnderCall o sheet s t words room route words' room')
        (enough : words_needed o ≤ length words) (fits : 2 * length (way_under (effects sheet) o s t) ≤ length room) where
      none_broken : way_under_refusal o sheet s t words room ≡ 0
      none_broken = calls.way_kept o shaped sheet kept s t hs ht words room enough fits

      abbrev net : Network
      net = network_under (effects sheet) o

      pub result : route ≡ route_after 0 (way net s t)
      unfolding way_under
      result = query.result ∙ rw none_broken

      pub bytes : room' ≡ output_after 0 (concat_map bytes16 (way net s t)) room
      unfolding way_under
      bytes = query.bytes ∙ rw none_broken

      under_below : t < order net
      under_below = rw (same_order (effects sheet) o) below

      under_start : s < order net
      under_start = rw (same_order (effects sheet) o) start

      under_few : order net ≤ max_nodes
      under_few = rw (same_order (effects sheet) o) (few o sound)

      pub way_succeeds : route.rule ≡ 0
      way_succeeds = ap (λ (r : Route). r.rule) result ∙ laws.route_rule 0 (way net s t)

      pub way_least : (p : Pair) → LeastPair (roads o sheet) s t p → WayWritten (roads o sheet) s t p room route room'
      way_least = written.way_least net (sane (effects sheet) o sound) under_few under_start under_below result bytes

      pub way_first : {p : Pair} → PairWalk (roads o sheet) s t p → (q : Pair) × WayWritten (roads o sheet) s t q room route room'
      way_first = written.way_first net (sane (effects sheet) o sound) under_few under_start under_below result bytes

      pub way_none : ((p : Pair) → PairWalk (roads o sheet) s t p → ⊥) → (route.nodes ≡ 0) × (room' ≡ room)
      way_none = written.way_none net (sane (effects sheet) o sound) under_few under_start under_below result bytes

-- ---- what building hands over
module _ {f : Bytes} {dv : Division} {work work' : List ℕ} {out out' : Bytes} {r : Built} (call : Build f dv work out r work' out') (done : r.rule ≡ 0)
    (sheet : Bytes) where
  abbrev o : Bytes
  o = handed r out'

  abbrev N : ℕ
  N = node_count (node_body f)

  own_words : {k : ℕ} → words_needed f ≤ k → words_needed o ≤ k
  own_words h = rw (demands.handed_words call done) h

  own_node : {u : ℕ} → u < N → u < node_count (node_body o)
  own_node h = rw (demands.handed_count call done) h

  old_least : (s t : ℕ) → s < N → t < N → IsLeastPair (PairWalk (timed_arcs (network o)) s t) (distance_of (time_answer o s t))
  old_least s t hs ht = rw (demands.handed_network call done) (demands.least call done s t hs ht)

  module _ (kept : first_broken (sheet_rules o sheet) ≡ 0) (s t : ℕ) (hs : s < N) (ht : t < N) where
    module _ {words words' : List ℕ} {room room' : Bytes} {route : Route} (query : WayUnderCall o sheet s t words room route words' room')
        (enough : words_needed f ≤ length words) (fits : 2 * length (way_under (effects sheet) o s t) ≤ length room) where
      pub way_built_succeeds : route.rule ≡ 0
      way_built_succeeds = way_succeeds o (demands.handed_shape call done) sheet s t (own_node hs) (own_node ht) kept query (own_words enough) fits

  -- A time that a built oracle answers has a walk, so an empty sheet leaves it.
  pub empty_built : sheet_broken sheet ≡ false → line_count (line_body sheet) ≡ 0 → {s t : ℕ} {words words' plain_words : List ℕ} {a b : Answer}
      → TimeUnderCall o sheet s t words a words' → TimeCall o s t words b plain_words → (a ≡ b) × (words' ≡ plain_words)
  unfolding distance_of
  empty_built formed empty {s} {t} query old = empty_time o sheet formed empty s t query old (λ p pairs kind e. found p kind pairs (answered old e))
    where
      found : (p : Pair) (kind : Kind) (pairs : ℕ) → calls.Asked o s t × (time_answer o s t ≡ timed p kind pairs)
          → (q : Pair) × PairWalk (timed_arcs (network o)) s t q
      found p kind pairs (asked, e) =
          let hs : s < N = rw (demands.handed_count call done) at asked.hs in
          let ht : t < N = rw (demands.handed_count call done) at asked.ht in
          let l = rw e at (old_least s t hs ht) in
          (_, l.has)
