-- The three demands over the calls: each statement is about any outcome that keeps the calls' contracts. `Build`, `Audit`, `TimeCall`, `FarCall` and
-- `WayCall` are the contracts of `build`, `audit`, `time`, `far` and `way`; `list_result` and `list_refusal` are what `list` and `list_rule` return.
-- The words used here are defined in `Outcomes`; the proofs are in `DemandLaws`. The rest of the statements, which rest on words of `Outcomes` that a
-- must-fail edit changes, are in proofs/Demands, under the same three heads: read the two together. Assumes nothing.
use Rattle.std.specs.Prelude.{ℕ, ◌*◌, ◌≤◌, ◌<◌, ◌≡◌, refl, ◌↔◌, true, length, get_or, drop, ◌+◌}
use mathlib.Core.List.{List, [], ◌∷◌, map, Memᴰ}
use Rattle.model.specs.Bytes.{Bytes, words16, cut}
use Rattle.model.specs.Contents.{node_body, edge_body, closed_body, grid_body, transit_body, access_body, table_body, body, body_part}
use Rattle.model.specs.Pair.{Pair}
use Rattle.model.specs.Walk.{PairWalk}
use Rattle.model.specs.Distance.{IsLeastPair}
use Rattle.model.specs.Network.{network, node_count, timed_arcs, distance}
use Rattle.model.specs.Grid.{Grid, Cell, grid_over, division, cells}
use Rattle.model.specs.Access.{access_nodes}
use Rattle.model.specs.Oracle.{oracle, transit_of, transit_count, access_list, table_entry, list_size, list_start, list_count, list_part}
use Rattle.model.specs.Query.{kind_between, way, list_span, list_of}
use Rattle.model.specs.Rules.{network_rules, accept_rules, shape_rules, pair_rules, accepted, well_shaped, words_needed, build_rules, audit_rules}
use Rattle.model.specs.Rules.{time_rules, far_rules, list_rules, way_rules, no_such_node}
use Rattle.model.specs.Calls.{cleared, Build, Audit, TimeCall, list_refusal, list_result, WayCall}
use Rattle.model.specs.declared.Division.{Division}
use Rattle.model.specs.declared.Kind.TheVariants.{Far, Local}
use Rattle.model.specs.declared.Answer.{Answer}
use Rattle.model.specs.declared.Answer.TheVariants.{Time}
use Rattle.model.specs.declared.Built.{Built}
use Rattle.model.specs.declared.Route.{Route}
use Rattle.theory.specs.ReadLaws.{entry_of}
use Rattle.theory.specs.AccessLaws.{AccessNode}
use Rattle.std.proofs.Common.{arith, length-take, length-drop, leb-false}
use Rattle.std.proofs.Math.Path.{ap}
use Rattle.model.specs.Lists.{Part}
use Rattle.theory.specs.Joined.{list_within}
use Rattle.theory.specs.Firsts.{split}
use Rattle.theory.specs.Passed.{all_passed, all_shaped, shape_counted}
use Rattle.theory.specs.WellShaped as shape
use Rattle.demands.specs.Outcomes.{handed, FarCells, cell_in}
use Rattle.demands.specs.DemandLaws as laws

-- ==== Demand 1: "A call that meets broken bytes, numbers or memory hands back the number of the first rule broken and writes nothing
-- (rules 15 and 16 zero the working words they used)." That every call ends and stays inside what it was lent is proved of all code.

-- The rules that each call checks, in checking order: 01's, and 21 "directly after 7" (document 02, T-06).
pub build_order : (f : Bytes) (dv : Division) (words room : ℕ) → map (λ r. r.number) (build_rules f dv words room)
    ≡ 1 ∷ 2 ∷ 3 ∷ 4 ∷ 5 ∷ 6 ∷ 7 ∷ 21 ∷ 8 ∷ 14 ∷ 15 ∷ []
unfolding build_rules accept_rules network_rules
build_order f dv words room = refl

pub audit_order : (o : Bytes) (words : ℕ) → map (λ r. r.number) (audit_rules o words)
    ≡ 1 ∷ 2 ∷ 3 ∷ 4 ∷ 5 ∷ 6 ∷ 7 ∷ 21 ∷ 8 ∷ 9 ∷ 10 ∷ 11 ∷ 14 ∷ 16 ∷ []
unfolding audit_rules shape_rules network_rules
audit_order o words = refl

pub time_order : (o : Bytes) (s t words : ℕ) → map (λ r. r.number) (time_rules o s t words)
    ≡ 1 ∷ 2 ∷ 3 ∷ 4 ∷ 5 ∷ 6 ∷ 7 ∷ 21 ∷ 8 ∷ 9 ∷ 10 ∷ 11 ∷ 12 ∷ 14 ∷ []
unfolding time_rules pair_rules shape_rules network_rules
time_order o s t words = refl

pub far_order : (o : Bytes) (s t : ℕ) → map (λ r. r.number) (far_rules o s t)
    ≡ 1 ∷ 2 ∷ 3 ∷ 4 ∷ 5 ∷ 6 ∷ 7 ∷ 21 ∷ 8 ∷ 9 ∷ 10 ∷ 11 ∷ 12 ∷ 13 ∷ []
unfolding far_rules pair_rules shape_rules network_rules
far_order o s t = refl

pub list_order : (o : Bytes) (u : ℕ) → map (λ r. r.number) (list_rules o u) ≡ 1 ∷ 2 ∷ 3 ∷ 4 ∷ 5 ∷ 6 ∷ 7 ∷ 21 ∷ 8 ∷ 9 ∷ 10 ∷ 11 ∷ 12 ∷ []
unfolding list_rules shape_rules network_rules
list_order o u = refl

pub way_order : (o : Bytes) (s t words room : ℕ) → map (λ r. r.number) (way_rules o s t words room)
    ≡ 1 ∷ 2 ∷ 3 ∷ 4 ∷ 5 ∷ 6 ∷ 7 ∷ 21 ∷ 8 ∷ 9 ∷ 10 ∷ 11 ∷ 12 ∷ 14 ∷ 15 ∷ []
unfolding way_rules time_rules pair_rules shape_rules network_rules
way_order o s t words room = refl

-- "Refused, the part is empty, which no list is."
pub list_not_empty : (o : Bytes) (u : ℕ) → list_refusal o u ≡ 0 → list_result o u ≡ [] → ⊥
unfolding list_refusal list_rules list_result list_of list_span list_part no_such_node well_shaped cut body
list_not_empty o u e z =
    let p = split (shape_rules o) 12 (no_such_node o u) (shape_counted o) (omega arith) e in
    let l : u < node_count (node_body o) = leb-false (node_count (node_body o)) u p.1 in
    let h = list_within (node_count (node_body o)) (transit_count (transit_body o)) (access_body o) u (all_shaped o (rw p.0)).access l in
    let q : length (list_of o u) ≡ 0 = ap length (rw e at z) in
    let d : Part = body_part o 5 in
    let k : ℕ = d.start + list_start (access_body o) u in
    omega (
      arith,
      length-take (list_size (list_count (access_body o) u)) (drop k o),
      length-drop k o,
      length-take d.size (drop d.start o),
      length-drop
          d.start o,
    )

-- ==== Demand 2: "Building gives exactly the access and transit places of the published grid method, every equally quick way counted, with exact times."

-- "The audit accepts a well-shaped oracle just when it is the one building gives", both ways, for any oracle and enough memory.
pub audit_just_built : (o : Bytes) → well_shaped o ≡ true → {work work' : List ℕ} {r : ℕ} → Audit o work r work' → words_needed o ≤ length work
    → (r ≡ 0) ↔ ((f : Bytes) × (dv : Division) × (accepted f dv ≡ true) × (o ≡ oracle f dv))
audit_just_built o shaped = laws.audit_just_built o shaped

-- Where the network is accepted and memory and output suffice, building refuses nothing ..
pub build_succeeds : {f : Bytes} {dv : Division} {work work' : List ℕ} {out out' : Bytes} {r : Built} → Build f dv work out r work' out'
    → accepted f dv ≡ true → words_needed f ≤ length work → length (oracle f dv) ≤ length out → r.rule ≡ 0
build_succeeds = laws.build_succeeds

-- .. and then the first bytes of the output, as many as it says, are the oracle that it hands over.
module _ {f : Bytes} {dv : Division} {work work' : List ℕ} {out out' : Bytes} {r : Built} (call : Build f dv work out r work' out') (done : r.rule ≡ 0) where
  abbrev o : Bytes
  o = handed r out'

  abbrev N : ℕ
  N = node_count (node_body f)

  -- The grid, the nodes' cells, and the access nodes of a cell.
  abbrev grid : Grid
  grid = grid_over dv (network f).nodes

  abbrev cs : List Cell
  cs = cells grid (network f).nodes

  abbrev access_in : Cell → List ℕ
  access_in c = access_nodes (distance (network f)) grid cs (network f).edges c

  pub built_accepted : accepted f dv ≡ true
  built_accepted = laws.built_accepted call done

  pub built_size : r.size ≡ length (oracle f dv)
  built_size = laws.built_size call done

  pub built_transit : r.transit ≡ length (transit_of f dv)
  built_transit = laws.built_transit call done

  pub handed_is : o ≡ oracle f dv
  handed_is = laws.handed_is call done

  -- It breaks none of rules 1 to 11.
  pub handed_shape : well_shaped o ≡ true
  handed_shape = laws.handed_shape call done

  -- Nothing is touched past it, and the first 8 × N working words are zero.
  pub rest_kept : drop r.size out' ≡ drop r.size out
  rest_kept = laws.rest_kept call done

  pub words_zero : work' ≡ cleared (words_needed f) work
  words_zero = laws.words_zero call done

  -- "d(u, t) for the least total of seconds over all walks from u to t; it is finite exactly when there is one", which document 02's T-07 makes the least pair:
  -- "Walks are compared by seconds, then by fewer roads, and d becomes that pair wherever 01 uses it." The arcs here cost their seconds.
  pub built_distance : (u t : ℕ) → u < N → IsLeastPair (PairWalk (timed_arcs (network f)) u t) (distance (network f) u t)
  built_distance = laws.built_distance call done

  -- The access nodes of a cell are exactly those on a least walk, any one, from a crossing node of the cell to one of outer ..
  pub built_access : (c : Cell) (a : ℕ) → Memᴰ a (access_in c) ↔ AccessNode (network f) grid cs c a
  built_access = laws.built_access call done

  -- .. "transit places are all access places of all cells" (`built_transit_nodes` in proofs/Demands), and body 5 has just their numbers ..
  pub built_numbers : words16 (transit_body o) ≡ transit_of f dv
  unfolding transit_of
  built_numbers = rw handed_is (shape.transit_read f dv (all_passed f dv built_accepted))

  -- .. "a place has the access list of its cell, each entry with d from that place": in the order of the access nodes, and the index of an entry
  -- names the node in body 5 that the entry is for ..
  pub built_list : (u : ℕ) → u < N → access_list (access_body o) u ≡ map (entry_of (distance (network f)) (transit_of f dv) u) (access_in (cell_in f dv u))
  built_list = laws.built_list call done

  -- .. "the table holds d between transit places, table(a, b) in the row of a and the column of b" ..
  pub built_table : (i j : ℕ) → i < length (transit_of f dv) → j < length (transit_of f dv)
      → table_entry (table_body o) (transit_count (transit_body o)) i j ≡ distance (network f) (get_or (transit_of f dv) i 0) (get_or (transit_of f dv) j 0)
  built_table = laws.built_table call done

  -- .. and "its bodies 1 to 3 are the network's own bytes".
  pub built_own : (node_body o ≡ node_body f) × (edge_body o ≡ edge_body f) × (closed_body o ≡ closed_body f) × (division (grid_body o) ≡ dv)
  built_own = laws.built_own call done

  -- A list of it is refused for no node, and the audit accepts it.
  pub list_succeeds : (u : ℕ) → u < N → list_refusal o u ≡ 0
  list_succeeds = laws.list_succeeds call done

  pub audit_accepts : {words words' : List ℕ} {k : ℕ} → Audit o words k words' → words_needed f ≤ length words → k ≡ 0
  audit_accepts = laws.audit_accepts call done

  -- ==== Demand 3

  -- Which pairs are far. What the answers are is in proofs/Demands.
  module _ (s t : ℕ) (hs : s < N) (ht : t < N) where
    -- The kind: "two places are far when their columns or their rows differ by 5 or more .., else local".
    pub kind_built : (kind_between o s t ≡ Far) ↔ FarCells (cell_in f dv s) (cell_in f dv t)
    kind_built = laws.kind_built call done s t hs ht

  pub time_itself : (s : ℕ) → s < N → {words words' : List ℕ} {a : Answer} → TimeCall o s s words a words' → words_needed f ≤ length words → a ≡ Time 0 0 Local 0
  time_itself = laws.time_itself call done

module _ (o : Bytes) (shaped : well_shaped o ≡ true) (s t : ℕ) (hs : s < node_count (node_body o)) (ht : t < node_count (node_body o)) where
  -- The kind, by the oracle's own nodes and grid.
  pub kind_cells : (kind_between o s t ≡ Far) ↔ FarCells (cell_in o (division (grid_body o)) s) (cell_in o (division (grid_body o)) t)
  kind_cells = laws.kind_cells o shaped s t

-- The way, where it has room and memory: no rule is broken, and "where there is no walk it has no place". The way of a walk is in proofs/Demands.
module _ (o : Bytes) (shaped : well_shaped o ≡ true) (s t : ℕ) (hs : s < node_count (node_body o)) (ht : t < node_count (node_body o))
    {words words' : List ℕ} {room room' : Bytes} {route : Route} (query : WayCall o s t words room route words' room')
    (enough : words_needed o ≤ length words) (fits : 2 * length (way (network o) s t) ≤ length room) where
  pub way_succeeds : route.rule ≡ 0
  way_succeeds = laws.way_succeeds o shaped s t hs ht query enough fits

  pub way_none : ((p : Pair) → PairWalk (timed_arcs (network o)) s t p → ⊥) → (route.nodes ≡ 0) × (room' ≡ room)
  way_none = laws.way_none o shaped s t hs ht query enough fits

-- The same of what `build` hands over, over the network's roads.
module _ {f : Bytes} {dv : Division} {work work' : List ℕ} {out out' : Bytes} {r : Built} (call : Build f dv work out r work' out') (done : r.rule ≡ 0)
    (s t : ℕ) (hs : s < node_count (node_body f)) (ht : t < node_count (node_body f))
    {words words' : List ℕ} {room room' : Bytes} {route : Route} (query : WayCall (handed r out') s t words room route words' room')
    (enough : words_needed f ≤ length words) (fits : 2 * length (way (network (handed r out')) s t) ≤ length room) where
  pub way_built_none : ((p : Pair) → PairWalk (timed_arcs (network f)) s t p → ⊥) → (route.nodes ≡ 0) × (room' ≡ room)
  way_built_none = laws.way_built_none call done s t hs ht query enough fits
