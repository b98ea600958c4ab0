-- The proofs of what `Demands` beside this file states, but for the two in `SumLaws`. Assumes nothing.
use Rattle.std.specs.Prelude.{ℕ, ◌*◌, ◌≤◌, ◌<◌, ◌≡◌, ◌↔◌, true, length}
use Rattle.std.proofs.Common.{◌∙◌, subst, ne_eqb, eqb-true}
use Rattle.std.proofs.Math.Path.{sym, ap}
use mathlib.Core.List.{List, [], map, Memᴰ}
use Rattle.std.proofs.Math.ListN.{get_or}
use Rattle.model.specs.Lists.{concat_map, index_of}
use Rattle.model.specs.Bytes.{Bytes, bytes16, words16}
use Rattle.model.specs.Contents.{node_body, transit_body, access_body}
use Rattle.model.specs.Pair.{Pair}
use Rattle.model.specs.Walk.{PairWalk, LeastPair}
use Rattle.model.specs.Distance.{IsLeastPair}
use Rattle.model.specs.Network.{network, node_count, order, timed_arcs, distance, max_nodes}
use Rattle.model.specs.Grid.{Cell}
use Rattle.model.specs.Access.{access_nodes}
use Rattle.model.specs.Oracle.{AccessEntry, oracle, transit_of, access_list}
use Rattle.model.specs.Query.{rule_of, distance_of, kind_between, answer_of, time_answer, far_answer, local_answer, way}
use Rattle.model.proofs.Meanings.{meaning_injective}
use Rattle.model.specs.Rules.{accepted, well_shaped, words_needed, first_broken, build_rules, audit_rules, time_rules, far_rules, list_rules, way_rules}
use Rattle.model.specs.Calls.{output_after, answer_after, build_refusal, Build, audit_refusal, Audit, time_refusal, time_result}
use Rattle.model.specs.Calls.{TimeCall, far_result, FarCall, list_refusal, list_result, way_refusal, route_after, WayCall}
use Rattle.model.specs.declared.Division.{Division}
use Rattle.model.specs.declared.Kind.{Kind}
use Rattle.model.specs.declared.Kind.TheVariants.{Far, Local}
use Rattle.model.specs.declared.Answer.{Answer}
use Rattle.model.specs.declared.Built.{Built}
use Rattle.model.specs.declared.Route.{Route}
use Rattle.theory.specs.Members.{map→, index_of_law}
use Rattle.theory.specs.ReadLaws.{entry_of}
use Rattle.theory.specs.PairModel.{distance_pair}
use Rattle.theory.specs.AccessLaws.{AccessNode}
use Rattle.theory.specs.Transit.{all_cells, transit_all}
use Rattle.theory.specs.Passed.{all_passed, all_shaped}
use Rattle.theory.specs.Sound.{ends, few, count_nodes}
use Rattle.theory.specs.Accepted.{good, g_above}
use Rattle.theory.specs.Built as built
use Rattle.theory.specs.BuiltCalls as calls
use Rattle.theory.specs.NetWays.{Sane}
use Rattle.demands.specs.Outcomes.{FirstOf, Refuses, handed, cell_in, pairs_tried, timed, Answers, FarSum, Agree, WayWritten}
use Rattle.demands.proofs.CallLaws as laws
use Rattle.demands.proofs.Written as written
use Rattle.demands.proofs.AnswerLaws.{answers, kind_answers, time_answers, least_of}
use Rattle.demands.proofs.FarSums.{far_least_sum}
use Rattle.demands.specs.FarBodies.{one_far_answer, far_body_answer, kind_alike}
use Rattle.demands.specs.DemandLaws.{time_is, time_far}
use Rattle.demands.specs.DemandLaws as told

-- ---- demand 1
pub build_refuses : {f : Bytes} {dv : Division} {work work' : List ℕ} {out out' : Bytes} {r : Built} → Build f dv work out r work' out'
    → Refuses (build_rules f dv (length work) (length out)) r.rule f work work' out out'
unfolding build_refusal
build_refuses {f} {dv} {work} {work'} {out} {out'} {r} call =
    let k : ℕ = first_broken (build_rules f dv (length work) (length out)) in
    let e : r.rule ≡ k = ap (λ (b : Built). b.rule) call.result ∙ laws.built_rule k f dv in
    rw (e, call.words, call.bytes) (laws.refuses (build_rules f dv (length work) (length out)) f work (oracle f dv) out)

pub audit_refuses : {o : Bytes} {work work' : List ℕ} {r : ℕ} → Audit o work r work' → Refuses (audit_rules o (length work)) r o work work' [] []
unfolding audit_refusal
audit_refuses {o} {work} call = rw (call.result, call.words) (laws.without_output (audit_rules o (length work)) o work)

pub time_refuses : {o : Bytes} {s t : ℕ} {work work' : List ℕ} {r : Answer} → TimeCall o s t work r work'
    → Refuses (time_rules o s t (length work)) (rule_of r) o work work' [] []
unfolding time_refusal time_result
time_refuses {o} {s} {t} {work} {work'} {r} call =
    let k : ℕ = first_broken (time_rules o s t (length work)) in
    let e : rule_of r ≡ k = ap rule_of (meaning_injective _ _ call.result) ∙ laws.time_rule k o s t in
    rw (e, call.words) (laws.without_output (time_rules o s t (length work)) o work)

pub far_refuses : {o : Bytes} {s t : ℕ} {r : Answer} → FarCall o s t r → FirstOf (far_rules o s t) (rule_of r)
unfolding far_result
far_refuses {o} {s} {t} call =
    rw (ap rule_of (meaning_injective _ _ call.result), laws.far_rule (first_broken (far_rules o s t)) o s t) (laws.first_of (far_rules o s t))

pub list_refuses : (o : Bytes) (u : ℕ) → FirstOf (list_rules o u) (list_refusal o u) × ((list_refusal o u ≡ 0 → ⊥) → list_result o u ≡ [])
unfolding list_refusal list_result
list_refuses o u = (laws.first_of (list_rules o u), λ h. rw (ne_eqb (first_broken (list_rules o u)) 0 h))

pub way_refuses : {o : Bytes} {s t : ℕ} {work work' : List ℕ} {out out' : Bytes} {r : Route} → WayCall o s t work out r work' out'
    → Refuses (way_rules o s t (length work) (length out)) r.rule o work work' out out'
unfolding way_refusal
way_refuses {o} {s} {t} {work} {work'} {out} {out'} {r} call =
    let k : ℕ = first_broken (way_rules o s t (length work) (length out)) in
    let e : r.rule ≡ k = ap (λ (x : Route). x.rule) call.result ∙ laws.route_rule k (way (network o) s t) in
    rw (e, call.words, call.bytes) (laws.refuses (way_rules o s t (length work) (length out)) o work (concat_map bytes16 (way (network o) s t)) out)

-- ---- any well-shaped oracle, built or not
module _ (o : Bytes) (shaped : well_shaped o ≡ true) where
  module _ (s t : ℕ) (hs : s < node_count (node_body o)) (ht : t < node_count (node_body o)) where
    pub far_is : {a : Answer} → FarCall o s t a → kind_between o s t ≡ Far → a ≡ far_answer o s t
    unfolding far_result answer_after
    far_is call far = meaning_injective _ _ call.result ∙ rw (calls.far_kept o shaped s t hs ht far)

    pub summed : Answers (FarSum o s t) Far (pairs_tried Far o s t) (far_answer o s t)
    unfolding far_answer
    summed = answers (FarSum o s t) Far _ _ (far_least_sum o (all_shaped o shaped) s t hs ht)

    pub time_local : {words words' : List ℕ} {a : Answer} → TimeCall o s t words a words' → words_needed o ≤ length words → kind_between o s t ≡ Local
        → Answers (PairWalk (timed_arcs (network o)) s t) Local 0 a
    unfolding time_answer answer_of local_answer
    time_local query enough near =
        rw (time_is o shaped s t hs ht query enough, near) (answers (PairWalk (timed_arcs (network o)) s t) Local 0 (distance (network o) s t)
        (distance_pair (network o) (ends o (all_shaped o shaped).sound) (few o (all_shaped o shaped).sound) (rw (count_nodes o) hs) t))

    module _ {words words' : List ℕ} {room room' : Bytes} {route : Route} (query : WayCall o s t words room route words' room')
        (enough : words_needed o ≤ length words) (fits : 2 * length (way (network o) s t) ≤ length room) where
      -- What the laws in specs/ say of this call.
      abbrev result : route ≡ route_after 0 (way (network o) s t)
      result = told.result o shaped s t hs ht query enough fits

      abbrev bytes : room' ≡ output_after 0 (concat_map bytes16 (way (network o) s t)) room
      bytes = told.bytes o shaped s t hs ht query enough fits

      abbrev sane : Sane (network o)
      sane = told.sane o shaped s t hs ht query enough fits

      abbrev small : order (network o) ≤ max_nodes
      small = told.small o shaped s t hs ht query enough fits

      abbrev start : s < order (network o)
      start = told.start o shaped s t hs ht query enough fits

      abbrev below : t < order (network o)
      below = told.below o shaped s t hs ht query enough fits

      pub way_least : (p : Pair) → LeastPair (timed_arcs (network o)) s t p → WayWritten (timed_arcs (network o)) s t p room route room'
      way_least = written.way_least (network o) sane small start below result bytes

      pub way_first : {p : Pair} → PairWalk (timed_arcs (network o)) s t p → (q : Pair) × WayWritten (timed_arcs (network o)) s t q room route room'
      way_first = written.way_first (network o) sane small start below result bytes

      pub way_local : {others others' : List ℕ} {a : Answer} → TimeCall o s t others a others' → words_needed o ≤ length others → kind_between o s t ≡ Local
          → {p : Pair} {pairs : ℕ} {kind : Kind} → a ≡ timed p kind pairs → WayWritten (timed_arcs (network o)) s t p room route room'
      way_local time many near {p} e = way_least p (least_of _ (time_local time many near) e)

-- ---- two well-shaped oracles
module _ {o p : Bytes} (ho : well_shaped o ≡ true) (hp : well_shaped p ≡ true) (agree : Agree o p) (s t : ℕ) where
  pub far_alike : {a b : Answer} → FarCall o s t a → FarCall p s t b → a ≡ b
  unfolding well_shaped
  far_alike x y = meaning_injective _ _ x.result ∙ (one_far_answer o p (eqb-true _ _ ho) (eqb-true _ _ hp) agree s t
      ∙ sym (meaning_injective _ _ y.result))

  pub time_alike : s < node_count (node_body o) → t < node_count (node_body o) → kind_between o s t ≡ Far
      → {words words' others others' : List ℕ} {a b : Answer} → TimeCall o s t words a words' → words_needed o ≤ length words
      → TimeCall p s t others b others' → words_needed p ≤ length others → a ≡ b
  time_alike hs ht far x enough y many =
      time_far o ho s t hs ht x enough far ∙
      (far_body_answer o p agree s t ∙ sym (time_far p hp s t (rw agree.nodes at hs) (rw agree.nodes at ht) y many
      (sym (kind_alike o p agree s t) ∙ far)))

-- ---- what building hands over
module _ {f : Bytes} {dv : Division} {work work' : List ℕ} {out out' : Bytes} {r : Built} (call : Build f dv work out r work' out') (done : r.rule ≡ 0) where
  abbrev o : Bytes
  o = handed r out'

  abbrev N : ℕ
  N = node_count (node_body f)

  -- What the laws in specs/ say of this call.
  abbrev ok : accepted f dv ≡ true
  ok = told.built_accepted call done

  below_order : {u : ℕ} → u < N → u < order (network f)
  below_order h = rw (count_nodes f) h

  -- The access nodes of a cell.
  abbrev access_in : Cell → List ℕ
  access_in c = access_nodes (distance (network f)) (built.grid_of f dv) (built.cells_of f dv) (network f).edges c

  abbrev built_access : (c : Cell) (a : ℕ) → Memᴰ a (access_in c) ↔ AccessNode (network f) (built.grid_of f dv) (built.cells_of f dv) c a
  built_access = told.built_access call done

  abbrev built_numbers : words16 (transit_body o) ≡ transit_of f dv
  built_numbers = told.built_numbers call done

  abbrev built_list : (u : ℕ) → u < N → access_list (access_body o) u ≡ map (entry_of (distance (network f)) (transit_of f dv) u) (access_in (cell_in f dv u))
  built_list = told.built_list call done

  abbrev handed_shape : well_shaped o ≡ true
  handed_shape = told.handed_shape call done

  abbrev handed_count : node_count (node_body o) ≡ N
  handed_count = told.handed_count call done

  abbrev handed_words : words_needed o ≡ words_needed f
  handed_words = told.handed_words call done

  abbrev handed_network : network o ≡ network f
  handed_network = told.handed_network call done

  -- The node that an entry's index names.
  abbrev named : AccessEntry → ℕ
  named = told.named call done

  pub built_transit_nodes : (a : ℕ) → Memᴰ a (words16 (transit_body o)) ↔
      ((c : Cell) × Memᴰ c (all_cells dv.g) × AccessNode (network f) (built.grid_of f dv) (built.cells_of f dv) c a)
  unfolding transit_of
  built_transit_nodes a =
      let (there, back) = laws.transit_member (order (network f)) access_in (all_cells dv.g) (λ c a m. laws.access_below f dv c a m) a in
      rw (built_numbers, ← transit_all (network f) (ends f (all_passed f dv ok).sound) dv (g_above f dv (all_passed f dv ok)))
      (λ m. let (c, i, x) = there m in (c, i, (built_access c a).0 x), λ (c, i, x). back (c, i, (built_access c a).1 x))

  pub built_entry : (u : ℕ) → u < N → (e : AccessEntry) → Memᴰ e (access_list (access_body o) u)
      → Memᴰ (named e) (access_in (cell_in f dv u)) × (e.distance ≡ distance (network f) u (named e))
  built_entry u h e m =
      let (a, i, q) = map→ (entry_of (distance (network f)) (transit_of f dv) u) (access_in (cell_in f dv u)) (rw (built_list u h) at m) in
      let there = index_of_law a (transit_of f dv) (unfold transit_of in built.in_transit f dv (good f dv (all_passed f dv ok)) u (below_order h) i) in
      let n : named e ≡ a = ap named q ∙ (ap (λ (l : List ℕ). get_or l (index_of a (transit_of f dv)) 0) built_numbers ∙ there.1) in
      (subst (λ (x : ℕ). Memᴰ x (access_in (cell_in f dv u))) (sym n) i, ap (λ (x : AccessEntry). x.distance) q ∙ ap (distance (network f) u) (sym n))

  module _ (s t : ℕ) (hs : s < N) (ht : t < N) where
    abbrev least : IsLeastPair (PairWalk (timed_arcs (network f)) s t) (distance_of (time_answer o s t))
    least = told.least call done s t hs ht

    pub time_built : {words words' : List ℕ} {a : Answer} → TimeCall o s t words a words' → words_needed f ≤ length words
        → Answers (PairWalk (timed_arcs (network f)) s t) (kind_between o s t) (pairs_tried (kind_between o s t) o s t) a
    time_built query enough =
        rw (time_is o handed_shape s t (rw handed_count hs) (rw handed_count ht) query (rw handed_words enough))
        (time_answers (PairWalk (timed_arcs (network f)) s t) o s t least)

    pub far_built : {a : Answer} → FarCall o s t a → kind_between o s t ≡ Far → Answers (PairWalk (timed_arcs (network f)) s t) Far (pairs_tried Far o s t) a
    unfolding time_answer answer_of
    far_built query far =
        rw (far_is o handed_shape s t (rw handed_count hs) (rw handed_count ht) query far)
        (kind_answers (PairWalk (timed_arcs (network f)) s t) Far o s t (rw far at least))

    module _ {words words' : List ℕ} {room room' : Bytes} {route : Route} (query : WayCall o s t words room route words' room')
        (enough : words_needed f ≤ length words) (fits : 2 * length (way (network o) s t) ≤ length room) where
      pub way_built : {others others' : List ℕ} {a : Answer} → TimeCall o s t others a others' → words_needed f ≤ length others
          → {p : Pair} {pairs : ℕ} {kind : Kind} → a ≡ timed p kind pairs → WayWritten (timed_arcs (network f)) s t p room route room'
      way_built time many {p} e =
          let l = least_of _ (time_built time many) e in
          rw handed_network at (way_least o handed_shape s t (rw handed_count hs) (rw handed_count ht) query (rw handed_words enough) fits p
          (rw handed_network l))

      pub way_built_first : {p : Pair} → PairWalk (timed_arcs (network f)) s t p → (q : Pair) × WayWritten (timed_arcs (network f)) s t q room route room'
      way_built_first {p} w = rw handed_network at (way_first o handed_shape s t (rw handed_count hs) (rw handed_count ht) query (rw handed_words enough) fits
          {p = p} (rw handed_network w))
