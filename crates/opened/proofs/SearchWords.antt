-- The words that a search has left, as distances and as a local answer. Assumes nothing.
use Prim.Native.Nat.{ℕ, ◌<◌}
use native.Mathlib.Nat.{zero-add}
use mathlib.Core.Path.{◌≡◌, sym, ◌∙◌, ap}
use mathlib.Core.Bool.{true}
use mathlib.Core.List.{List}
use lib.ListN.{get_or}
use Rattle.model.specs.Bytes.{Bytes}
use Rattle.model.specs.Contents.{node_body, edge_body}
use Rattle.model.specs.Distance.{dist, finite}
use Rattle.model.specs.Network.{network, node_count, distance}
use Rattle.model.specs.Oracle.{coded, decoded}
use Rattle.model.specs.Query.{answer, local_answer}
use Rattle.model.specs.Rules.{well_shaped}
use Rattle.model.specs.Walk.{Arc}
use Rattle.model.specs.declared.Kind.TheVariants.{Local}
use Rattle.theory.specs.Exact.{least_time}
use Rattle.theory.specs.Passed.{Shaped, all_shaped}
use Rattle.theory.specs.ReadLaws.{decoded_coded}
use Rattle.theory.specs.RangeLaws.{get_d_map_range}
use Rattle.theory.specs.Sound.{near, count_nodes}
use Rattle.theory.specs.Walks.{Within, least_stay}
use Rattle.algorithms.specs.Rounds.{distance_words}
use Rattle.arcs.specs.Arcs.{arcs_in, arcs_in_law}
use Rattle.arcs.proofs.Bodies.{arcs_within}
use Rattle.words.specs.Regions.{times_in}
use Rattle.words.specs.Times.{time}
use Rattle.words.proofs.TimeLaws.{time_at}
use Rattle.opened.specs.TimesFrom.{TimesFrom}

-- The time of t that a search from s has left.
pub found_word : (arcs : List Arc) (n s t : ℕ) (ys : List ℕ) → times_in n ys ≡ distance_words arcs n s → t < n → time n ys t ≡ coded (dist arcs n s t)
unfolding distance_words
found_word arcs n s t ys found h =
    sym (time_at n ys t h) ∙ (ap (λ (l : List ℕ). get_or l t 0) found ∙ (get_d_map_range (λ v. coded (dist arcs n s v)) 0 0 n t h ∙ rw zero-add))

-- The distance in the oracle's network, over its bodies.
pub distance_in : (o : Bytes) (s t : ℕ) → distance (network o) s t ≡ dist (arcs_in (edge_body o)) (node_count (node_body o)) s t
unfolding distance
distance_in o s t = rw (arcs_in_law o, count_nodes o)

-- The same of a search over the oracle's network.
pub toward_word : (o : Bytes) (s t : ℕ) (work : List ℕ) → TimesFrom o s work → t < node_count (node_body o)
    → time (node_count (node_body o)) work t ≡ coded (distance (network o) s t)
toward_word o s t work toward h =
    rw (distance_in o s t) (found_word (arcs_in (edge_body o)) (node_count (node_body o)) s t work toward.times h)

-- The local answer, from the word that the search has left.
pub local_is : (o : Bytes) → Shaped o → (s t r : ℕ) → s < node_count (node_body o) → r ≡ coded (distance (network o) s t)
    → answer Local 0 (decoded r) ≡ local_answer (network o) s t
unfolding local_answer
local_is o shaped s t r h e = rw e (ap (answer Local 0) (decoded_coded (distance (network o) s t) (near o shaped.sound s t (rw (count_nodes o) h))))

-- From a node to itself the walk with no arc takes no time.
pub itself_none : (arcs : List Arc) (n : ℕ) → Within n arcs → (s : ℕ) → s < n → dist arcs n s s ≡ finite 0
itself_none arcs n within s h = least_time arcs n s s within h 0 (least_stay s)

pub itself_no_time : (o : Bytes) (s : ℕ) → well_shaped o ≡ true → s < node_count (node_body o) → coded (distance (network o) s s) ≡ 0
unfolding coded
itself_no_time o s shape h =
    let n = node_count (node_body o) in
    let within = arcs_within n (edge_body o) (all_shaped o shape).sound.some_edge in
    rw (distance_in o s s) (ap coded (itself_none (arcs_in (edge_body o)) n within s h))
