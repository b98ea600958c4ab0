-- What document 02 promises under a day sheet (T-03, T-05, T-07), over the calls: the second page, under the headings of specs/SheetDemands.antt, with the
-- statements that rest on `Slowed`, `roads`, `Again` and `kind_under`, defined in `SheetOutcomes`, and on `Reopened`, in `Former`. The proofs are in the
-- files beside this one. Assumes nothing.
use Rattle.std.specs.Prelude.{ℕ, ◌*◌, ◌≤◌, ◌<◌, ◌≡◌, ◌⊎◌, ◌↔◌, true, false, length}
use mathlib.Core.List.{List}
use Rattle.model.specs.Bytes.{Bytes}
use Rattle.model.specs.Contents.{node_body}
use Rattle.model.specs.Pair.{Pair}
use Rattle.model.specs.Walk.{PairWalk}
use Rattle.model.specs.Network.{network, node_count, timed_arcs, arcs, distance}
use Rattle.model.specs.Query.{way}
use Rattle.model.specs.Rules.{first_broken, well_shaped, words_needed}
use Rattle.model.specs.Calls.{Build, TimeCall, WayCall}
use Rattle.model.specs.declared.Division.{Division}
use Rattle.model.specs.declared.Kind.{Kind}
use Rattle.model.specs.declared.Kind.TheVariants.{Local}
use Rattle.model.specs.declared.Answer.{Answer}
use Rattle.model.specs.declared.Answer.TheVariants.{None}
use Rattle.model.specs.declared.Built.{Built}
use Rattle.model.specs.declared.Route.{Route}
use Rattle.theory.specs.Passed.{all_shaped}
use Rattle.demands.specs.Outcomes.{handed, timed, Answers, WayWritten}
use Rattle.sheet.specs.Sheet.{Line, Effect.shut, Effect.delayed, holds, effects}
use Rattle.sheet.specs.Under.{network_under, slow_broken, still_driven, old_stands, way_under}
use Rattle.sheet.specs.SheetCalls.{sheet_rules, TimeUnderCall, WayUnderCall}
use Rattle.sheet_demands.specs.SheetOutcomes.{Slowed, roads, Driven, kind_under, pairs_under}
use Rattle.sheet_demands.proofs.SlowLaws as lines
use Rattle.sheet_demands.specs.SheetLaws as laws
use Rattle.sheet_demands.specs.Former.{last_holds, formerly, Reopened, Reopening, TimeBy, WayBy}
use Rattle.sheet_demands.proofs.SameLaws as former
use Rattle.sheet_demands.proofs.OldWays as ways
use Rattle.sheet_demands.proofs.BuiltLaws as built

-- ==== Refusals

-- "20 when the line that holds takes a road open in body 3 over 100,000 seconds."
pub twenty_just : (o sheet : Bytes) → well_shaped o ≡ true → (slow_broken (effects sheet) o ≡ true) ↔ Slowed o sheet
twenty_just o sheet shaped = lines.slow_just o sheet (all_shaped o shaped).sound

-- ==== Under a sheet over any well-shaped oracle, built or not
module _ (o : Bytes) (shaped : well_shaped o ≡ true) (sheet : Bytes) (s t : ℕ) (hs : s < node_count (node_body o)) (ht : t < node_count (node_body o)) where
  -- What `step_again` says of one step, of all steps of the old way, in seconds.
  pub still_driven_law : (still_driven (λ v. distance (network o) v t) (arcs (network_under (effects sheet) o)) (way (network o) s t) ≡ true)
      ↔ Driven (timed_arcs (network o)) (roads o sheet) (way (network o) s t)
  still_driven_law = ways.still_driven_law o shaped sheet s t hs ht

  -- "If there is an old way and its every step can still be driven in its old time, or the old answer was 'none'", b being the old answer.
  pub stands_just : {others others' : List ℕ} {b : Answer} → TimeCall o s t others b others' → words_needed o ≤ length others
      → (old_stands (effects sheet) o s t ≡ true) ↔
      (((kind : Kind) × (pairs : ℕ) × (b ≡ None kind pairs)) ⊎ Driven (timed_arcs (network o)) (roads o sheet) (way (network o) s t))
  stands_just = ways.stands_just o shaped sheet s t hs ht

  module _ (kept : first_broken (sheet_rules o sheet) ≡ 0) where
    module _ {words words' : List ℕ} {a : Answer} (query : TimeUnderCall o sheet s t words a words') (enough : words_needed o ≤ length words) where
      -- .. "otherwise the roads are searched and the answer is marked local with 0 pairs".
      pub time_searched : old_stands (effects sheet) o s t ≡ false → Answers (PairWalk (roads o sheet) s t) Local 0 a
      time_searched = laws.time_searched o shaped sheet s t hs ht kept query enough

    -- The way, over the oracle's own roads as the sheet leaves them: the nodes of a walk with the least pair, before which no other such walk's nodes come by
    -- node numbers; where there is no walk it has no node.
    module _ {words words' : List ℕ} {room room' : Bytes} {route : Route} (query : WayUnderCall o sheet s t words room route words' room')
        (enough : words_needed o ≤ length words) (fits : 2 * length (way_under (effects sheet) o s t) ≤ length room) where
      pub way_under_first : {p : Pair} → PairWalk (roads o sheet) s t p → (q : Pair) × WayWritten (roads o sheet) s t q room route room'
      way_under_first = laws.way_first o shaped sheet s t hs ht kept query enough fits

      pub way_under_none : ((p : Pair) → PairWalk (roads o sheet) s t p → ⊥) → (route.nodes ≡ 0) × (room' ≡ room)
      way_under_none = laws.way_none o shaped sheet s t hs ht kept query enough fits

      -- Where the old way can still be driven, it is the way under the sheet: the call hands back and writes what `way` does.
      pub way_again : Driven (timed_arcs (network o)) (roads o sheet) (way (network o) s t)
          → {others others' : List ℕ} {plain_room : Bytes} {plain_route : Route} → WayCall o s t others room plain_route others' plain_room
          → words_needed o ≤ length others → (route ≡ plain_route) × (room' ≡ plain_room)
      way_again = ways.way_again o shaped sheet s t hs ht kept query enough fits

-- ==== "Under a sheet over a built oracle, time and way are judged against the roads as that sheet leaves them."
module _ {f : Bytes} {dv : Division} {work work' : List ℕ} {out out' : Bytes} {r : Built} (call : Build f dv work out r work' out') (done : r.rule ≡ 0)
    (sheet : Bytes) (kept : first_broken (sheet_rules (handed r out') sheet) ≡ 0)
    (s t : ℕ) (hs : s < node_count (node_body f)) (ht : t < node_count (node_body f)) where
  abbrev o : Bytes
  o = handed r out'

  -- Nothing is refused. The answer is a time just where its seconds and hops are the least pair over walks on the roads as the sheet leaves them, and 'none'
  -- just where there is no walk on them ("Least now means least pair, also under day sheets", T-07); its kind and pairs are those of the old answer where
  -- that stands, else local and 0.
  pub time_under_built : {words words' : List ℕ} {a : Answer} → TimeUnderCall o sheet s t words a words' → words_needed f ≤ length words
      → Answers (PairWalk (roads f sheet) s t) (kind_under o sheet s t) (pairs_under o sheet s t) a
  time_under_built = built.time_built call done sheet kept s t hs ht

  module _ {words words' : List ℕ} {room room' : Bytes} {route : Route} (query : WayUnderCall o sheet s t words room route words' room')
      (enough : words_needed f ≤ length words) (fits : 2 * length (way_under (effects sheet) o s t) ≤ length room) where
    -- The way has as many seconds and roads as the answer says.
    pub way_under_built : {others others' : List ℕ} {a : Answer} → TimeUnderCall o sheet s t others a others' → words_needed f ≤ length others
        → {p : Pair} {pairs : ℕ} {kind : Kind} → a ≡ timed p kind pairs → WayWritten (roads f sheet) s t p room route room'
    way_under_built = built.way_built call done sheet kept s t hs ht query enough fits

    pub way_built_first : {p : Pair} → PairWalk (roads f sheet) s t p → (q : Pair) × WayWritten (roads f sheet) s t q room route room'
    way_built_first = built.way_built_first call done sheet kept s t hs ht query enough fits

    pub way_built_none : ((p : Pair) → PairWalk (roads f sheet) s t p → ⊥) → (route.nodes ≡ 0) × (room' ≡ room)
    way_built_none = built.way_built_none call done sheet kept s t hs ht query enough fits

    pub way_built_again : Driven (timed_arcs (network f)) (roads f sheet) (way (network f) s t)
        → {others others' : List ℕ} {plain_room : Bytes} {plain_route : Route} → WayCall o s t others room plain_route others' plain_room
        → words_needed f ≤ length others → (route ≡ plain_route) × (room' ≡ plain_room)
    way_built_again = built.way_built_again call done sheet kept s t hs ht query enough fits

-- ==== What T-05 changed. `Former` has the rule of before it, T-03's "the last line about a road holds"

-- Road by road: what the lines do is what they did, but to a road where "a delay follows a closure of its road and no later line closes it", which was open
-- and is closed.
pub same_held : {ls : List Line} {i : ℕ} → (Reopened ls i → ⊥) → holds ls i ≡ last_holds ls i
same_held = former.same_held

pub other_held : {ls : List Line} {i : ℕ} → Reopened ls i → (holds ls i ≡ shut) × ((n : ℕ) × (last_holds ls i ≡ delayed n))
other_held = former.other_held

-- "Answers can change only under sheets where a delay follows a closure of its road and no later line closes it." Under every other sheet both calls hand
-- back and leave what they did, refusals included: for any bytes, nodes, memory and output.
module _ (o sheet : Bytes) (other : Reopening sheet → ⊥) (s t : ℕ) {work work' former_work : List ℕ} where
  pub same_time : {a b : Answer} → TimeUnderCall o sheet s t work a work' → TimeBy (formerly sheet) o sheet s t work b former_work
      → (a ≡ b) × (work' ≡ former_work)
  same_time = former.same_time o sheet other s t

  pub same_way : {out out' former_out : Bytes} {r former_r : Route} → WayUnderCall o sheet s t work out r work' out'
      → WayBy (formerly sheet) o sheet s t work out former_r former_work former_out → (r ≡ former_r) × (work' ≡ former_work) × (out' ≡ former_out)
  same_way = former.same_way o sheet other s t
