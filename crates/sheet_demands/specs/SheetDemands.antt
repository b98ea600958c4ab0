-- What document 02 promises under a day sheet (T-03, T-05, T-07), over the calls: each statement is about any outcome that keeps the calls' contracts.
-- `TimeUnderCall` and `WayUnderCall` are the contracts of the time and the way under a sheet, `TimeCall` and `WayCall` those of `time` and `way`.
-- `roads f sheet` are the arcs that the sheet leaves of a file's roads. The other words used here are defined in `SheetOutcomes`, in `sheet`, Sheet,
-- and in `demands`, Outcomes; the proofs are in `SheetLaws` and below it. The statements that rest on `Slowed`, `roads`, `Again`, `kind_under` and
-- `Reopened` are on a second page, proofs/SheetAnswers.antt, under the same headings. Assumes nothing.
use Rattle.std.specs.Prelude.{ℕ, ◌*◌, ◌≤◌, ◌<◌, ◌≡◌, refl, ◌↔◌, true, false, length}
use mathlib.Core.List.{List, [], ◌∷◌, map, Memᴰ}
use Rattle.model.specs.Lists.{member}
use Rattle.model.specs.Bytes.{Bytes}
use Rattle.model.specs.Contents.{node_body}
use Rattle.model.specs.Walk.{Arc, LeastOf}
use Rattle.model.specs.Distance.{Distance}
use Rattle.model.specs.Network.{Edge, network, node_count}
use Rattle.model.specs.Query.{rule_of, nexts}
use Rattle.model.specs.Rules.{first_broken, network_rules, shape_rules, pair_rules, well_shaped, words_needed}
use Rattle.model.specs.Calls.{Build, TimeCall, WayCall}
use Rattle.model.specs.declared.Division.{Division}
use Rattle.model.specs.declared.Answer.{Answer}
use Rattle.model.specs.declared.Built.{Built}
use Rattle.model.specs.declared.Route.{Route}
use Rattle.theory.specs.Way.{Exact, Step}
use Rattle.demands.specs.Outcomes.{Refuses, handed}
use Rattle.sheet.specs.Sheet.{Line, Effect.shut, Effect.delayed, line_count, line_body, closes, effect_of, holds, NoneCloses, Last, effects, sheet_broken}
use Rattle.sheet.specs.Under.{network_under, old_stands, way_under}
use Rattle.sheet.specs.SheetCalls.{sheet_rules, pair_under_rules, time_under_rules, way_under_rules, TimeUnderCall, WayUnderCall}
use Rattle.sheet.proofs.Lasts as lasts
use Rattle.sheet_demands.specs.SheetOutcomes.{Left, Between, HasWay}
use Rattle.sheet_demands.specs.Changed as changed
use Rattle.sheet_demands.specs.LineLaws as lines
use Rattle.sheet_demands.specs.DrivenLaws as drives
use Rattle.sheet_demands.specs.EmptySheets as empty
use Rattle.sheet_demands.specs.SheetLaws as laws
use Rattle.sheet_demands.specs.Former.{TimeBy, WayBy}
use Rattle.sheet_demands.specs.FormerLaws as former

-- ==== Refusals

-- "18 .., 19 .., 20 .., all directly after 12 in that order."
pub under_order : (o sheet : Bytes) (s t words room : ℕ) → map (λ r. r.number) (way_under_rules o sheet s t words room)
    ≡ 1 ∷ 2 ∷ 3 ∷ 4 ∷ 5 ∷ 6 ∷ 7 ∷ 21 ∷ 8 ∷ 9 ∷ 10 ∷ 11 ∷ 12 ∷ 18 ∷ 19 ∷ 20 ∷ 14 ∷ 15 ∷ []
unfolding way_under_rules time_under_rules pair_under_rules sheet_rules pair_rules shape_rules network_rules
under_order o sheet s t words room = refl

-- Each call hands back the number of the first rule broken and writes nothing (15 zeroes the working words), for every input.
pub time_under_refuses : {o sheet : Bytes} {s t : ℕ} {work work' : List ℕ} {a : Answer} → TimeUnderCall o sheet s t work a work'
    → Refuses (time_under_rules o sheet s t (length work)) (rule_of a) o work work' [] []
time_under_refuses = laws.time_under_refuses

pub way_under_refuses : {o sheet : Bytes} {s t : ℕ} {work work' : List ℕ} {out out' : Bytes} {r : Route} → WayUnderCall o sheet s t work out r work' out'
    → Refuses (way_under_rules o sheet s t (length work) (length out)) r.rule o work work' out out'
way_under_refuses = laws.way_under_refuses

-- ==== The roads as a sheet leaves them, of any bytes

-- "Any closure in a sheet holds over every delay for that road; among delays the last still holds", and a road that no line is about has no second more.
pub closure_holds : {ls : List Line} {i : ℕ} {l : Line} → Memᴰ l ls → l.edge ≡ i → closes l ≡ true → holds ls i ≡ shut
closure_holds = lasts.closure_holds

pub last_holds_law : {ls : List Line} {i : ℕ} {l : Line} → NoneCloses ls i → Last ls i l → holds ls i ≡ effect_of l
last_holds_law = lasts.last_holds_law

pub none_holds : {ls : List Line} {i : ℕ} → ((k : Line) → Memᴰ k ls → k.edge ≡ i → ⊥) → holds ls i ≡ delayed 0
none_holds = lasts.none_holds

-- Each edge that is left is a road of the file that the sheet does not close, with the same ends and its seconds and those added; and each such road is left.
pub road_left : (f sheet : Bytes) {e : Edge} → Memᴰ e (network_under (effects sheet) f).edges ↔ Left (effects sheet) f e
road_left f sheet = changed.left_just (effects sheet) f

-- That road is one of the network without the sheet.
pub road_was : (f sheet : Bytes) {e : Edge} → Memᴰ e (network_under (effects sheet) f).edges
    → (old : Edge) × Memᴰ old (network f).edges × (old.first ≡ e.first) × (old.second ≡ e.second) × (old.seconds ≤ e.seconds)
road_was f sheet m = changed.was_there (effects sheet) f m

-- ==== Under a sheet over any well-shaped oracle, built or not

-- "Its every step can still be driven in its old time." Where d is exact over the old arcs, the arc by which a step of a least walk was taken has the
-- least cost between its two nodes, and the step is still driven just where some new arc between the two, the same road's or one beside it, costs just as
-- much. (Each is one road, so its cost as a key is as good as its seconds: `still_driven_law` says the same in seconds.)
module _ (old : List Arc) (t : ℕ) (d : ℕ → Distance) (exact : Exact old t d) {u v : ℕ} (step : Step d old u v) where
  pub step_least : LeastOf (Between old u v) step.arc.cost
  step_least = drives.step_least old t d exact step

  pub step_again : (new : List Arc) → (member v (nexts d new u) ≡ true) ↔ Between new u v step.arc.cost
  step_again new = drives.step_again old t d exact step new

module _ (o : Bytes) (shaped : well_shaped o ≡ true) (sheet : Bytes) (s t : ℕ) (hs : s < node_count (node_body o)) (ht : t < node_count (node_body o)) where
  module _ (kept : first_broken (sheet_rules o sheet) ≡ 0) where
    module _ {words words' : List ℕ} {a : Answer} (query : TimeUnderCall o sheet s t words a words') (enough : words_needed o ≤ length words) where
      -- ".. the old answer stands with its kind and pairs" ..
      pub time_stands : old_stands (effects sheet) o s t ≡ true → {others others' : List ℕ} {b : Answer} → TimeCall o s t others b others'
          → words_needed o ≤ length others → a ≡ b
      time_stands = laws.time_stands o shaped sheet s t hs ht kept query enough

    module _ {words words' : List ℕ} {room room' : Bytes} {route : Route} (query : WayUnderCall o sheet s t words room route words' room')
        (enough : words_needed o ≤ length words) (fits : 2 * length (way_under (effects sheet) o s t) ≤ length room) where
      pub way_under_succeeds : route.rule ≡ 0
      way_under_succeeds = laws.way_succeeds o shaped sheet s t hs ht kept query enough fits

-- ==== "Under a sheet over a built oracle, time and way are judged against the roads as that sheet leaves them."
module _ {f : Bytes} {dv : Division} {work work' : List ℕ} {out out' : Bytes} {r : Built} (call : Build f dv work out r work' out') (done : r.rule ≡ 0)
    (sheet : Bytes) (kept : first_broken (sheet_rules (handed r out') sheet) ≡ 0)
    (s t : ℕ) (hs : s < node_count (node_body f)) (ht : t < node_count (node_body f)) where
  abbrev o : Bytes
  o = handed r out'

  module _ {words words' : List ℕ} {room room' : Bytes} {route : Route} (query : WayUnderCall o sheet s t words room route words' room')
      (enough : words_needed f ≤ length words) (fits : 2 * length (way_under (effects sheet) o s t) ≤ length room) where
    pub way_built_succeeds : route.rule ≡ 0
    way_built_succeeds = laws.way_built_succeeds call done sheet kept s t hs ht query enough fits

-- ==== A sheet without lines changes nothing over a built oracle: neither a refusal nor an answer, its kind and pairs included, nor what is written

-- The roads, and all that the way call does, of any bytes, nodes, memory and output.
pub empty_roads : (f sheet : Bytes) → line_count (line_body sheet) ≡ 0 → network_under (effects sheet) f ≡ network f
empty_roads f sheet empty = lines.empty_network sheet empty f

pub empty_way : (o sheet : Bytes) → sheet_broken sheet ≡ false → line_count (line_body sheet) ≡ 0 → (s t : ℕ)
    → {work work' plain_work : List ℕ} {out out' plain_out : Bytes} {r plain_r : Route}
    → WayUnderCall o sheet s t work out r work' out' → WayCall o s t work out plain_r plain_work plain_out
    → (r ≡ plain_r) × (work' ≡ plain_work) × (out' ≡ plain_out)
empty_way = empty.empty_way

-- All that the time call does, where a time that is answered has an old way (a far time over an oracle that was never built need not have one: then
-- the roads are searched) ..
pub empty_time : (o sheet : Bytes) → sheet_broken sheet ≡ false → line_count (line_body sheet) ≡ 0 → (s t : ℕ)
    → {work work' plain_work : List ℕ} {a b : Answer} → TimeUnderCall o sheet s t work a work' → TimeCall o s t work b plain_work
    → HasWay o s t b → (a ≡ b) × (work' ≡ plain_work)
empty_time = empty.empty_time

-- .. as it has over what `build` hands over.
pub empty_built : {f : Bytes} {dv : Division} {work work' : List ℕ} {out out' : Bytes} {r : Built} → Build f dv work out r work' out' → r.rule ≡ 0
    → (sheet : Bytes) → sheet_broken sheet ≡ false → line_count (line_body sheet) ≡ 0 → {s t : ℕ} {words words' plain_words : List ℕ} {a b : Answer}
    → TimeUnderCall (handed r out') sheet s t words a words' → TimeCall (handed r out') s t words b plain_words → (a ≡ b) × (words' ≡ plain_words)
empty_built call done sheet = laws.empty_built call done sheet

-- ==== What T-05 changed. `Former` has the rule of before it, T-03's "the last line about a road holds"

-- `TimeBy` and `WayBy` are the contracts of the calls under a sheet, by any rule.
pub time_by : {o sheet : Bytes} {s t : ℕ} {work work' : List ℕ} {a : Answer}
    → TimeUnderCall o sheet s t work a work' ↔ TimeBy (effects sheet) o sheet s t work a work'
time_by = former.time_by

pub way_by : {o sheet : Bytes} {s t : ℕ} {work work' : List ℕ} {out out' : Bytes} {r : Route}
    → WayUnderCall o sheet s t work out r work' out' ↔ WayBy (effects sheet) o sheet s t work out r work' out'
way_by = former.way_by
