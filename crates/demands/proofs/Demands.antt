-- The three demands over the calls, continued from specs/Demands: the statements that rest on words of `Outcomes` that a must-fail edit changes. Each is
-- about any outcome that keeps the calls' contracts; the proofs are in `DemandLaws` and `SumLaws` beside this file. Assumes nothing.
use Rattle.std.specs.Prelude.{ℕ, ◌*◌, ◌≤◌, ◌<◌, ◌≡◌, ◌↔◌, true, length, get_or}
use mathlib.Core.List.{List, [], Memᴰ}
use Rattle.model.specs.Bytes.{Bytes, words16}
use Rattle.model.specs.Contents.{node_body, transit_body, access_body}
use Rattle.model.specs.Pair.{Pair}
use Rattle.model.specs.Walk.{PairWalk}
use Rattle.model.specs.Network.{network, node_count, timed_arcs, distance}
use Rattle.model.specs.Grid.{Grid, Cell, grid_over, cells}
use Rattle.model.specs.Access.{access_nodes}
use Rattle.model.specs.Oracle.{AccessEntry, access_list}
use Rattle.model.specs.Query.{rule_of, kind_between, way}
use Rattle.model.specs.Rules.{well_shaped, words_needed, build_rules, audit_rules, time_rules, far_rules, list_rules, way_rules}
use Rattle.model.specs.Calls.{Build, Audit, TimeCall, FarCall, list_refusal, list_result, WayCall}
use Rattle.model.specs.declared.Division.{Division}
use Rattle.model.specs.declared.Kind.{Kind}
use Rattle.model.specs.declared.Kind.TheVariants.{Far, Local}
use Rattle.model.specs.declared.Answer.{Answer}
use Rattle.model.specs.declared.Built.{Built}
use Rattle.model.specs.declared.Route.{Route}
use Rattle.theory.specs.AccessLaws.{AccessNode}
use Rattle.theory.specs.Transit.{all_cells}
use Rattle.demands.specs.Outcomes.{FirstOf, Refuses, handed, cell_in, pairs_tried, timed, Answers, FarSum, Agree, WayWritten}
use Rattle.demands.proofs.DemandLaws as laws
use Rattle.demands.proofs.SumLaws as sums

-- ==== Demand 1: "A call that meets broken bytes, numbers or memory hands back the number of the first rule broken and writes nothing
-- (rules 15 and 16 zero the working words they used)." That every call ends and stays inside what it was lent is proved of all code.

pub build_refuses : {f : Bytes} {dv : Division} {work work' : List ℕ} {out out' : Bytes} {r : Built} → Build f dv work out r work' out'
    → Refuses (build_rules f dv (length work) (length out)) r.rule f work work' out out'
build_refuses = laws.build_refuses

pub audit_refuses : {o : Bytes} {work work' : List ℕ} {r : ℕ} → Audit o work r work' → Refuses (audit_rules o (length work)) r o work work' [] []
audit_refuses = laws.audit_refuses

pub time_refuses : {o : Bytes} {s t : ℕ} {work work' : List ℕ} {a : Answer} → TimeCall o s t work a work'
    → Refuses (time_rules o s t (length work)) (rule_of a) o work work' [] []
time_refuses = laws.time_refuses

pub far_refuses : {o : Bytes} {s t : ℕ} {a : Answer} → FarCall o s t a → FirstOf (far_rules o s t) (rule_of a)
far_refuses = laws.far_refuses

pub list_refuses : (o : Bytes) (u : ℕ) → FirstOf (list_rules o u) (list_refusal o u) × ((list_refusal o u ≡ 0 → ⊥) → list_result o u ≡ [])
list_refuses = laws.list_refuses

pub way_refuses : {o : Bytes} {s t : ℕ} {work work' : List ℕ} {out out' : Bytes} {r : Route} → WayCall o s t work out r work' out'
    → Refuses (way_rules o s t (length work) (length out)) r.rule o work work' out out'
way_refuses = laws.way_refuses

-- ==== Demand 2: "Building gives exactly the access and transit places of the published grid method, every equally quick way counted, with exact times."

-- Of what building hands over; the rest is in specs/Demands, with what the words of this module mean.
module _ {f : Bytes} {dv : Division} {work work' : List ℕ} {out out' : Bytes} {r : Built} (call : Build f dv work out r work' out') (done : r.rule ≡ 0) where
  abbrev o : Bytes
  o = handed r out'

  abbrev N : ℕ
  N = node_count (node_body f)

  -- The grid, the nodes' cells, and the access nodes of a cell.
  abbrev grid : Grid
  grid = grid_over dv (network f).nodes

  abbrev cs : List Cell
  cs = cells grid (network f).nodes

  abbrev access_in : Cell → List ℕ
  access_in c = access_nodes (distance (network f)) grid cs (network f).edges c

  -- .. "transit places are all access places of all cells", of all g × g, and body 5 has just their numbers ..
  pub built_transit_nodes : (a : ℕ) → Memᴰ a (words16 (transit_body o)) ↔ ((c : Cell) × Memᴰ c (all_cells dv.g) × AccessNode (network f) grid cs c a)
  built_transit_nodes = laws.built_transit_nodes call done

  -- The index of an entry names the node in body 5 that the entry is for.
  pub built_entry : (u : ℕ) → u < N → (e : AccessEntry) → Memᴰ e (access_list (access_body o) u)
      → let a : ℕ = get_or (words16 (transit_body o)) e.index 0 in Memᴰ a (access_in (cell_in f dv u)) × (e.distance ≡ distance (network f) u a)
  built_entry = laws.built_entry call done

  -- ==== Demand 3

  -- "However the places lie, under whichever grid from 1 to 64, for every accepted network with any number of equally quick ways, and for every pair of
  -- places, one place twice included, the built oracle, given enough working memory, answers the least total wherever there is a walk on open roads from
  -- the first to the second: some such walk has it, and every other has at least as many seconds. It answers 'none' exactly when there is no walk."
  -- T-07: "Least now means least pair", and "each answer states both numbers".
  module _ (s t : ℕ) (hs : s < N) (ht : t < N) where
    pub time_built : {words words' : List ℕ} {a : Answer} → TimeCall o s t words a words' → words_needed f ≤ length words
        → Answers (PairWalk (timed_arcs (network f)) s t) (kind_between o s t) (pairs_tried (kind_between o s t) o s t) a
    time_built = laws.time_built call done s t hs ht

    -- "Both the time and the far question give this answer for a far pair."
    pub far_built : {a : Answer} → FarCall o s t a → kind_between o s t ≡ Far → Answers (PairWalk (timed_arcs (network f)) s t) Far (pairs_tried Far o s t) a
    far_built = laws.far_built call done s t hs ht

-- "On any well-shaped oracle a far answer is the least sum from the lists and the table, or 'none' where no sum is left, without the roads":
-- of the far question and of the time, with the pairs tried.
module _ (o : Bytes) (shaped : well_shaped o ≡ true) (s t : ℕ) (hs : s < node_count (node_body o)) (ht : t < node_count (node_body o)) where
  pub far_sums : {a : Answer} → FarCall o s t a → kind_between o s t ≡ Far → Answers (FarSum o s t) Far (pairs_tried Far o s t) a
  far_sums = sums.far_sums o shaped s t hs ht

  pub time_sums : {words words' : List ℕ} {a : Answer} → TimeCall o s t words a words' → words_needed o ≤ length words → kind_between o s t ≡ Far
      → Answers (FarSum o s t) Far (pairs_tried Far o s t) a
  time_sums = sums.time_sums o shaped s t hs ht

  -- "A local answer is the least total over walks on the open roads .. its pairs tried is 0": over the oracle's own roads.
  pub time_local : {words words' : List ℕ} {a : Answer} → TimeCall o s t words a words' → words_needed o ≤ length words → kind_between o s t ≡ Local
      → Answers (PairWalk (timed_arcs (network o)) s t) Local 0 a
  time_local = laws.time_local o shaped s t hs ht

-- "Two such oracles alike in places, grid, transit places, lists and table, both given enough working memory, give every far pair the same answer,
-- pairs tried included." (By the far question also the same refusals, of any pair.)
module _ {o p : Bytes} (ho : well_shaped o ≡ true) (hp : well_shaped p ≡ true) (agree : Agree o p) (s t : ℕ) where
  pub time_alike : s < node_count (node_body o) → t < node_count (node_body o) → kind_between o s t ≡ Far
      → {words words' others others' : List ℕ} {a b : Answer} → TimeCall o s t words a words' → words_needed o ≤ length words
      → TimeCall p s t others b others' → words_needed p ≤ length others → a ≡ b
  time_alike = laws.time_alike ho hp agree s t

  pub far_alike : {a b : Answer} → FarCall o s t a → FarCall p s t b → a ≡ b
  far_alike = laws.far_alike ho hp agree s t

-- "Where there is a walk, the reported way is the places of a least walk, and no other least walk's places come before them by place numbers; where
-- there is no walk it has no place." T-07: "A way is the first by place numbers among the least walks of this order." It has one place more than its walk has
-- roads, and never passes a place twice (`WayWritten`, roads and once). Of any well-shaped oracle, over its own roads.
module _ (o : Bytes) (shaped : well_shaped o ≡ true) (s t : ℕ) (hs : s < node_count (node_body o)) (ht : t < node_count (node_body o))
    {words words' : List ℕ} {room room' : Bytes} {route : Route} (query : WayCall o s t words room route words' room')
    (enough : words_needed o ≤ length words) (fits : 2 * length (way (network o) s t) ≤ length room) where
  pub way_first : {p : Pair} → PairWalk (timed_arcs (network o)) s t p → (q : Pair) × WayWritten (timed_arcs (network o)) s t q room route room'
  way_first = laws.way_first o shaped s t hs ht query enough fits

  -- Its seconds and roads are those that a local answer states.
  pub way_local : {others others' : List ℕ} {a : Answer} → TimeCall o s t others a others' → words_needed o ≤ length others → kind_between o s t ≡ Local
      → {p : Pair} {pairs : ℕ} {kind : Kind} → a ≡ timed p kind pairs → WayWritten (timed_arcs (network o)) s t p room route room'
  way_local = laws.way_local o shaped s t hs ht query enough fits

-- The same of what `build` hands over, over the network's roads. The way has as many seconds and roads as the answer says, far or local.
module _ {f : Bytes} {dv : Division} {work work' : List ℕ} {out out' : Bytes} {r : Built} (call : Build f dv work out r work' out') (done : r.rule ≡ 0)
    (s t : ℕ) (hs : s < node_count (node_body f)) (ht : t < node_count (node_body f))
    {words words' : List ℕ} {room room' : Bytes} {route : Route} (query : WayCall (handed r out') s t words room route words' room')
    (enough : words_needed f ≤ length words) (fits : 2 * length (way (network (handed r out')) s t) ≤ length room) where
  pub way_built_first : {p : Pair} → PairWalk (timed_arcs (network f)) s t p → (q : Pair) × WayWritten (timed_arcs (network f)) s t q room route room'
  way_built_first = laws.way_built_first call done s t hs ht query enough fits

  pub way_built : {others others' : List ℕ} {a : Answer} → TimeCall (handed r out') s t others a others' → words_needed f ≤ length others
      → {p : Pair} {pairs : ℕ} {kind : Kind} → a ≡ timed p kind pairs → WayWritten (timed_arcs (network f)) s t p room route room'
  way_built = laws.way_built call done s t hs ht query enough fits
