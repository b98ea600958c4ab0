-- What the questions answer, for a well-shaped oracle. Assumes nothing.
use Rattle.std.specs.Prelude.{ℕ, zero, suc, ◌+◌, ◌*◌, ◌&&◌, List, [], ◌∷◌, map, length, eqb}
use Rattle.model.specs.Lists.{Part, filter, least_of}
use Rattle.model.specs.Bytes.{Bytes, cut}
use Rattle.model.specs.Contents.{body_part, node_body, grid_body, transit_body, access_body, table_body}
use Rattle.model.specs.Pair.{Pair, key, seconds_of, hops_of}
use Rattle.model.specs.Walk.{Arc}
use Rattle.model.specs.Distance.{Distance, unreachable, finite, plus, agree, soonest}
use Rattle.model.specs.Network.{Network, network, nodes, arcs, distance}
use Rattle.model.specs.Grid.{grid_over, division, cells, cell_at, kind_of}
use Rattle.model.specs.Oracle.{coded, AccessEntry, transit_count, access_list, list_part, table_entry}
use Rattle.model.specs.declared.Kind.{Kind}
use Rattle.model.specs.declared.Kind.TheVariants.{Far, Local}
use Rattle.model.specs.declared.Answer.{Answer}
use Rattle.model.specs.declared.Answer.TheVariants.{Time, None, Refused}

-- An answer that is no refusal. "Each answer states both numbers" (T-07).
unfoldable pub answer : Kind → ℕ → Distance → Answer
answer kind pairs unreachable = None kind pairs
answer kind pairs (finite k) = Time (seconds_of k) (hops_of k) kind pairs

-- A time, which is a pair of seconds and hops, or 'none'.
pub data Total : Type 0 where
  none : Total
  total : Pair → Total

-- What an answer carries beside its number: far or local, a time or 'none', and the pairs tried. A refusal carries nothing.
pub data Values : Type 0 where
  absent : Values
  carried : Kind → Total → ℕ → Values

pub record Meaning : Type 0 where
  pub rule : ℕ
  pub values : Values

-- Document 01's number and values of each case of an answer. The number is that of the broken rule, 0 for none; "a refusal hands back its number
-- and nothing else". Different answers differ in it (`Meanings`), and the promises of the calls are said by it.
unfoldable pub meaning : Answer → Meaning
meaning (Time seconds hops kind pairs) = record { rule = 0; values = carried kind (total (record { seconds = seconds; hops = hops })) pairs }
meaning (None kind pairs) = record { rule = 0; values = carried kind none pairs }
meaning (Refused rule) = record { rule = rule; values = absent }

-- The number alone.
unfoldable pub rule_of : Answer → ℕ
unfolding meaning
rule_of a = (meaning a).rule

-- The time or 'none' alone, of an answer that is no refusal.
unfoldable pub distance_in : Values → Distance
distance_in absent = unreachable
distance_in (carried kind none pairs) = unreachable
distance_in (carried kind (total p) pairs) = finite (key p.seconds p.hops)

unfoldable pub distance_of : Answer → Distance
unfolding meaning distance_in
distance_of a = distance_in (meaning a).values

-- ---- the far answer, from the lists and the table

-- The sum for an entry of the list of s and one of the list of t. Three values have at most 12,285 hops, so their keys add as the pairs do (`theory`, Keys).
unfoldable pub sum_by : Bytes → ℕ → AccessEntry → AccessEntry → Distance
sum_by table T a b = plus a.distance (plus (table_entry table T a.index b.index) b.distance)

-- "The least of d(s, a) + table(a, b) + d(b, t) over a in the list of s and b in the list of t, leaving out sums with a 'no walk' part."
unfoldable pub far_distance : Bytes → ℕ → List AccessEntry → List AccessEntry → Distance
far_distance table T leaving entering = soonest (λ a. soonest (sum_by table T a) entering) leaving

-- "Its pairs tried is the product of the two list lengths." "The values added are those that bodies 6 and 7 hold."
unfoldable pub far_answer : Bytes → ℕ → ℕ → Answer
far_answer o s t =
    let leaving = access_list (access_body o) s in
    let entering = access_list (access_body o) t in
    answer Far (length leaving * length entering) (far_distance (table_body o) (transit_count (transit_body o)) leaving entering)

-- ---- the local answer, from the walks

-- "A local answer is the least total over walks on the open roads .. its pairs tried is 0": "Least now means least pair" (T-07).
unfoldable pub local_answer : Network → ℕ → ℕ → Answer
local_answer net s t = answer Local 0 (distance net s t)

-- ---- the time

unfoldable pub kind_between : Bytes → ℕ → ℕ → Kind
kind_between o s t =
    let ns = nodes (node_body o) in
    let grid = grid_over (division (grid_body o)) ns in
    let cs = cells grid ns in
    kind_of grid (cell_at cs s) (cell_at cs t)

unfoldable pub answer_of : Kind → Bytes → ℕ → ℕ → Answer
answer_of Far o s t = far_answer o s t
answer_of Local o s t = local_answer (network o) s t

unfoldable pub time_answer : Bytes → ℕ → ℕ → Answer
time_answer o s t = answer_of (kind_between o s t) o s t

-- The time alone, where document 02 wants "'no walk' marked as in the table": its key, its seconds, and its hops.
unfoldable pub time_word : Bytes → ℕ → ℕ → ℕ
time_word o s t = coded (distance_of (time_answer o s t))

unfoldable pub seconds_word : Bytes → ℕ → ℕ → ℕ
seconds_word o s t = seconds_of (time_word o s t)

unfoldable pub hops_word : Bytes → ℕ → ℕ → ℕ
hops_word o s t = hops_of (time_word o s t)

-- ---- the way, a list of nodes

-- The neighbours v of u with "road time + d(v, t) = d(u, t)", in pairs, where d is the distance to the way's end t.
unfoldable pub nexts : (ℕ → Distance) → List Arc → ℕ → List ℕ
nexts d es u = map (λ a. a.to) (filter (λ a. eqb a.from u && agree (plus (finite a.cost) (d a.to)) (d u)) es)

-- "Next to the lowest-numbered neighbour v" of these, if there is any.
unfoldable pub onward : List ℕ → (ℕ → List ℕ) → List ℕ
onward [] rest = []
onward (v ∷ vs) rest = rest (least_of v vs)

-- The way after u. It ends where there is no next node; `left` bounds its length: the key of the pair left, which falls at each step, as there is one hop less,
-- also where the road takes 0 seconds.
unfoldable pub way_after : (ℕ → Distance) → List Arc → ℕ → ℕ → List ℕ
way_after d es zero u = []
way_after d es (suc left) u = onward (nexts d es u) (λ v. v ∷ way_after d es left v)

unfoldable pub way_from : (ℕ → Distance) → List Arc → Distance → ℕ → List ℕ
way_from d es unreachable u = []
way_from d es (finite n) u = u ∷ way_after d es n u

unfoldable pub way : Network → ℕ → ℕ → List ℕ
way net u t = let d : ℕ → Distance = λ v. distance net v t in way_from d (arcs net) (d u) u

-- ---- the access list: "handed back as that part of the oracle, its count included"

unfoldable pub list_span : Bytes → ℕ → Part
list_span o u = record { start = (body_part o 5).start + (list_part (access_body o) u).start; size = (list_part (access_body o) u).size }

unfoldable pub list_of : Bytes → ℕ → Bytes
list_of o u = cut (list_span o u) o
