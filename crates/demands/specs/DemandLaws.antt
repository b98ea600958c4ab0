-- The proofs of what `Demands` states; those that rest on a word of `Outcomes` that a must-fail edit changes are in proofs/DemandLaws.
-- Assumes nothing.
use Rattle.std.specs.Prelude.{ℕ, ◌+◌, ◌*◌, ◌≤◌, ◌<◌, ◌≡◌, ◌↔◌, true, length, drop}
use Rattle.std.proofs.Common.{arith, ◌∙◌, length-take, length-drop, leb-false}
use Rattle.std.proofs.Math.Path.{sym, ap}
use mathlib.Core.List.{List, [], map, Memᴰ}
use Rattle.std.proofs.Math.ListN.{get_or}
use Rattle.model.specs.Lists.{Part, concat_map}
use Rattle.model.specs.Bytes.{Bytes, bytes16, words16, cut}
use Rattle.model.specs.Contents.{body, body_part, node_body, edge_body, closed_body, grid_body, transit_body, access_body, table_body}
use Rattle.model.specs.Pair.{Pair}
use Rattle.model.specs.Walk.{PairWalk}
use Rattle.model.specs.Distance.{IsLeastPair}
use Rattle.model.specs.Network.{network, node_count, order, timed_arcs, distance, max_nodes}
use Rattle.model.specs.Grid.{Cell, division}
use Rattle.model.specs.Access.{access_nodes}
use Rattle.model.specs.Oracle.{AccessEntry, oracle, transit_of, transit_count, access_list, list_size, list_start, list_count, list_part, table_entry}
use Rattle.model.specs.Query.{distance_of, kind_between, answer_of, time_answer, far_answer, way, list_span, list_of}
use Rattle.model.proofs.Meanings.{meaning_injective}
use Rattle.model.specs.Rules.{accepted, well_shaped, words_needed, shape_rules, list_rules}
use Rattle.model.specs.Rules.{no_such_node, work_words}
use Rattle.model.specs.Calls.{cleared, work_after, output_after, answer_after, build_refusal, built_after, Build, Audit, time_result}
use Rattle.model.specs.Calls.{TimeCall, list_refusal, list_result, way_refusal, route_after, WayCall}
use Rattle.model.specs.declared.Division.{Division}
use Rattle.model.specs.declared.Kind.TheVariants.{Far, Local}
use Rattle.model.specs.declared.Answer.{Answer}
use Rattle.model.specs.declared.Answer.TheVariants.{Time}
use Rattle.model.specs.declared.Built.{Built}
use Rattle.model.specs.declared.Route.{Route}
use Rattle.theory.specs.Joined.{list_within}
use Rattle.theory.specs.ReadLaws.{entry_of}
use Rattle.theory.specs.PairModel.{distance_pair}
use Rattle.theory.specs.AccessLaws.{AccessNode}
use Rattle.theory.proofs.AccessExact.{access_exact}
use Rattle.theory.specs.Firsts.{split}
use Rattle.theory.specs.Passed.{all_passed, all_shaped, shape_counted}
use Rattle.theory.specs.Sound.{ends, few, count_nodes}
use Rattle.theory.specs.Accepted.{good}
use Rattle.theory.specs.Built as built
use Rattle.theory.specs.WellShaped as shape
use Rattle.theory.specs.Audits as audits
use Rattle.theory.specs.Times as times
use Rattle.theory.proofs.ExactTimes as exact
use Rattle.theory.specs.BuiltCalls as calls
use Rattle.theory.specs.NetWays.{Sane}
use Rattle.theory.specs.Ways as ways
use Rattle.demands.specs.Outcomes.{handed, FarCells, cell_in}
use Rattle.demands.specs.CallLaws as laws
use Rattle.demands.specs.Written as written
use Rattle.demands.specs.AnswerLaws.{far_cells}

-- ---- demand 1
-- A list has its count at least.
pub list_not_empty : (o : Bytes) (u : ℕ) → list_refusal o u ≡ 0 → list_result o u ≡ [] → ⊥
unfolding list_refusal list_rules list_result list_of list_span list_part no_such_node well_shaped cut body
list_not_empty o u e z =
    let p = split (shape_rules o) 12 (no_such_node o u) (shape_counted o) (omega arith) e in
    let l : u < node_count (node_body o) = leb-false (node_count (node_body o)) u p.1 in
    let h = list_within (node_count (node_body o)) (transit_count (transit_body o)) (access_body o) u (all_shaped o (rw p.0)).access l in
    let q : length (list_of o u) ≡ 0 = ap length (rw e at z) in
    let d : Part = body_part o 5 in
    let k : ℕ = d.start + list_start (access_body o) u in
    omega (
      arith,
      length-take (list_size (list_count (access_body o) u)) (drop k o),
      length-drop k o,
      length-take d.size (drop d.start o),
      length-drop
          d.start o,
    )

-- ---- any well-shaped oracle, built or not
module _ (o : Bytes) (shaped : well_shaped o ≡ true) where
  pub audit_just_built : {work work' : List ℕ} {r : ℕ} → Audit o work r work' → words_needed o ≤ length work
      → (r ≡ 0) ↔ ((f : Bytes) × (dv : Division) × (accepted f dv ≡ true) × (o ≡ oracle f dv))
  audit_just_built {work} call enough = rw call.result (audits.audit_built o shaped work enough)

  pub kind_cells : (s t : ℕ) → (kind_between o s t ≡ Far) ↔ FarCells (cell_in o (division (grid_body o)) s) (cell_in o (division (grid_body o)) t)
  unfolding kind_between network
  kind_cells s t = far_cells _ _ _ _

  module _ (s t : ℕ) (hs : s < node_count (node_body o)) (ht : t < node_count (node_body o)) where
    pub time_is : {words words' : List ℕ} {a : Answer} → TimeCall o s t words a words' → words_needed o ≤ length words → a ≡ time_answer o s t
    unfolding time_result answer_after
    time_is {words} query enough = meaning_injective _ _ query.result ∙ rw (calls.time_kept o shaped s t hs ht words enough)

    pub time_far : {words words' : List ℕ} {a : Answer} → TimeCall o s t words a words' → words_needed o ≤ length words → kind_between o s t ≡ Far
        → a ≡ far_answer o s t
    unfolding time_answer answer_of
    time_far query enough far = time_is query enough ∙ rw far

    module _ {words words' : List ℕ} {room room' : Bytes} {route : Route} (query : WayCall o s t words room route words' room')
        (enough : words_needed o ≤ length words) (fits : 2 * length (way (network o) s t) ≤ length room) where
      kept : way_refusal o s t words room ≡ 0
      kept = calls.way_kept o shaped s t hs ht words room enough fits

      pub result : route ≡ route_after 0 (way (network o) s t)
      result = query.result ∙ rw kept

      pub bytes : room' ≡ output_after 0 (concat_map bytes16 (way (network o) s t)) room
      bytes = query.bytes ∙ rw kept

      pub sane : Sane (network o)
      sane = ways.sane o (all_shaped o shaped).sound

      pub small : order (network o) ≤ max_nodes
      small = few o (all_shaped o shaped).sound

      pub start : s < order (network o)
      start = rw (count_nodes o) hs

      pub below : t < order (network o)
      below = rw (count_nodes o) ht

      pub way_succeeds : route.rule ≡ 0
      way_succeeds = ap (λ (r : Route). r.rule) result ∙ laws.route_rule 0 (way (network o) s t)

      pub way_none : ((p : Pair) → PairWalk (timed_arcs (network o)) s t p → ⊥) → (route.nodes ≡ 0) × (room' ≡ room)
      way_none = written.way_none (network o) sane small start below result bytes

-- ---- what building hands over
pub build_succeeds : {f : Bytes} {dv : Division} {work work' : List ℕ} {out out' : Bytes} {r : Built} → Build f dv work out r work' out'
    → accepted f dv ≡ true → words_needed f ≤ length work → length (oracle f dv) ≤ length out → r.rule ≡ 0
build_succeeds {f} {dv} {work} {work'} {out} call ok enough room =
    ap (λ (b : Built). b.rule) call.result ∙ (laws.built_rule (build_refusal f dv work out) f dv ∙ laws.build_kept f dv work out ok enough room)

module _ {f : Bytes} {dv : Division} {work work' : List ℕ} {out out' : Bytes} {r : Built} (call : Build f dv work out r work' out') (done : r.rule ≡ 0) where
  abbrev o : Bytes
  o = handed r out'

  refused : build_refusal f dv work out ≡ 0
  refused = sym (laws.built_rule (build_refusal f dv work out) f dv) ∙ (ap (λ (b : Built). b.rule) (sym call.result) ∙ done)

  pub built_accepted : accepted f dv ≡ true
  built_accepted = laws.build_accepted f dv work out refused

  abbrev ok : accepted f dv ≡ true
  ok = built_accepted

  built_result : r ≡ built_after 0 f dv
  built_result = call.result ∙ ap (λ (k : ℕ). built_after k f dv) refused

  pub built_size : r.size ≡ length (oracle f dv)
  unfolding built_after
  built_size = ap (λ (b : Built). b.size) built_result

  pub built_transit : r.transit ≡ length (transit_of f dv)
  unfolding built_after
  built_transit = ap (λ (b : Built). b.transit) built_result

  bytes_after : out' ≡ output_after 0 (oracle f dv) out
  bytes_after = call.bytes ∙ ap (λ (k : ℕ). output_after k (oracle f dv) out) refused

  pub handed_is : o ≡ oracle f dv
  handed_is = rw (built_size, bytes_after) (laws.front_done (oracle f dv) out)

  pub rest_kept : drop r.size out' ≡ drop r.size out
  rest_kept = rw (built_size, bytes_after) (laws.rest_done (oracle f dv) out)

  pub words_zero : work' ≡ cleared (words_needed f) work
  words_zero = call.words ∙ (ap (λ (k : ℕ). work_after k f work) refused ∙ laws.words_done f work)

  abbrev N : ℕ
  N = node_count (node_body f)

  below_order : {u : ℕ} → u < N → u < order (network f)
  below_order h = rw (count_nodes f) h

  pub built_distance : (u t : ℕ) → u < N → IsLeastPair (PairWalk (timed_arcs (network f)) u t) (distance (network f) u t)
  built_distance u t h = distance_pair (network f) (ends f (all_passed f dv ok).sound) (few f (all_passed f dv ok).sound) (below_order h) t

  -- The access nodes of a cell.
  abbrev access_in : Cell → List ℕ
  access_in c = access_nodes (distance (network f)) (built.grid_of f dv) (built.cells_of f dv) (network f).edges c

  pub built_access : (c : Cell) (a : ℕ) → Memᴰ a (access_in c) ↔ AccessNode (network f) (built.grid_of f dv) (built.cells_of f dv) c a
  built_access c a = access_exact (network f) (ends f (all_passed f dv ok).sound) (few f (all_passed f dv ok).sound)
      (built.grid_of f dv) (built.cells_of f dv) (built.count_cells f dv) c a

  pub built_numbers : words16 (transit_body o) ≡ transit_of f dv
  unfolding transit_of
  built_numbers = rw handed_is (shape.transit_read f dv (all_passed f dv ok))

  pub built_list : (u : ℕ) → u < N → access_list (access_body o) u ≡ map (entry_of (distance (network f)) (transit_of f dv) u) (access_in (cell_in f dv u))
  unfolding transit_of
  built_list u h = rw handed_is (built.list_built f dv (good f dv (all_passed f dv ok)) u (below_order h))

  -- The node that an entry's index names.
  abbrev pub named : AccessEntry → ℕ
  named e = get_or (words16 (transit_body o)) e.index 0

  pub built_table : (i j : ℕ) → i < length (transit_of f dv) → j < length (transit_of f dv)
      → table_entry (table_body o) (transit_count (transit_body o)) i j ≡ distance (network f) (get_or (transit_of f dv) i 0) (get_or (transit_of f dv) j 0)
  unfolding transit_of
  built_table i j p q = rw handed_is (shape.table_built f dv (all_passed f dv ok) i j p q)

  pub built_own : (node_body o ≡ node_body f) × (edge_body o ≡ edge_body f) × (closed_body o ≡ closed_body f) × (division (grid_body o) ≡ dv)
  built_own =
      let k = good f dv (all_passed f dv ok) in
      rw handed_is
      (built.bodies_of f dv k 0 (omega arith), built.bodies_of f dv k 1 (omega arith), built.bodies_of f dv k 2 (omega arith), built.same_division f dv k)

  pub handed_shape : well_shaped o ≡ true
  handed_shape = rw handed_is (shape.built_well_shaped f dv ok)

  pub handed_count : node_count (node_body o) ≡ N
  handed_count = ap node_count built_own.0

  pub handed_words : words_needed o ≡ words_needed f
  unfolding words_needed
  handed_words = ap work_words handed_count

  pub handed_network : network o ≡ network f
  handed_network = rw handed_is (built.same_network f dv (good f dv (all_passed f dv ok)))

  pub list_succeeds : (u : ℕ) → u < N → list_refusal o u ≡ 0
  list_succeeds u h = calls.list_kept o handed_shape u (rw handed_count h)

  pub audit_accepts : {words words' : List ℕ} {k : ℕ} → Audit o words k words' → words_needed f ≤ length words → k ≡ 0
  audit_accepts query enough = (audit_just_built o handed_shape query (rw handed_words enough)).1 (f, dv, ok, handed_is)

  module _ (s t : ℕ) (hs : s < N) (ht : t < N) where
    pub kind_built : (kind_between o s t ≡ Far) ↔ FarCells (cell_in f dv s) (cell_in f dv t)
    kind_built = rw (handed_is, built.same_kind f dv (good f dv (all_passed f dv ok)) s t) (far_cells dv (network f).nodes (cell_in f dv s) (cell_in f dv t))

    pub least : IsLeastPair (PairWalk (timed_arcs (network f)) s t) (distance_of (time_answer o s t))
    least = rw handed_is (exact.time_pair f dv ok s t (below_order hs) (below_order ht))

    module _ {words words' : List ℕ} {room room' : Bytes} {route : Route} (query : WayCall o s t words room route words' room')
        (enough : words_needed f ≤ length words) (fits : 2 * length (way (network o) s t) ≤ length room) where
      pub way_built_none : ((p : Pair) → PairWalk (timed_arcs (network f)) s t p → ⊥) → (route.nodes ≡ 0) × (room' ≡ room)
      way_built_none h = way_none o handed_shape s t (rw handed_count hs) (rw handed_count ht) query (rw handed_words enough) fits (rw handed_network h)

  pub time_itself : (s : ℕ) → s < N → {words words' : List ℕ} {a : Answer} → TimeCall o s s words a words' → words_needed f ≤ length words → a ≡ Time 0 0 Local 0
  time_itself s hs query enough =
      time_is o handed_shape s s (rw handed_count hs) (rw handed_count hs) query (rw handed_words enough)
      ∙ rw handed_is (times.time_itself f dv ok s (below_order hs))
