-- What an old network with closed edges said, and what was answered over an oracle built from it: what the converter's promises compare with. Assumes nothing.
-- These are the definitions of before T-06, over pairs and in the forms of T-07 as all else; where body 3 is empty they are today's (`convert_demands`,
-- as-before).
use Rattle.std.specs.Prelude.{ℕ, Bool, not, ◌||◌, cond, List, map}
use Rattle.model.specs.Lists.{filter, concat_map, member, up_to}
use Rattle.model.specs.Bytes.{Bytes, words16}
use Rattle.model.specs.Contents.{node_body, edge_body, closed_body}
use Rattle.model.specs.Network.{Network, nodes, edge, edge_count, arcs, distance}
use Rattle.model.specs.Oracle.{oracle_over}
use Rattle.model.specs.Query.{far_answer, local_answer, kind_between, way}
use Rattle.model.specs.declared.Division.{Division}
use Rattle.model.specs.declared.Kind.{Kind}
use Rattle.model.specs.declared.Kind.TheVariants.{Far, Local}
use Rattle.model.specs.declared.Answer.{Answer}
use Rattle.sheet.specs.Sheet.{Effect}
use Rattle.sheet.specs.Under.{left_of, is_none, still_driven}

-- "Closed roads: 16-bit road numbers, rising, perhaps none. A closed road is in no walk and crosses nothing; all others are open."
unfoldable pub closed_in : Bytes → List ℕ
closed_in f = words16 (closed_body f)

unfoldable pub is_open : List ℕ → ℕ → Bool
is_open closed i = not (member i closed)

-- The numbers of the open ones among m edges.
unfoldable pub open_of : List ℕ → ℕ → List ℕ
open_of closed m = filter (is_open closed) (up_to m)

unfoldable pub open_in : Bytes → List ℕ
open_in f = open_of (closed_in f) (edge_count (edge_body f))

-- The network that an old file said: its nodes, and its open edges in order.
unfoldable pub old_network : Bytes → Network
old_network f = record { nodes = nodes (node_body f); edges = map (edge (edge_body f)) (open_in f) }

-- The oracle that was built from it, and the answers over such an oracle.
unfoldable pub old_oracle : Bytes → Division → Bytes
old_oracle f dv = oracle_over (old_network f) (node_body f) (edge_body f) (closed_body f) dv

unfoldable pub old_answer_of : Kind → Bytes → ℕ → ℕ → Answer
old_answer_of Far o s t = far_answer o s t
old_answer_of Local o s t = local_answer (old_network o) s t

unfoldable pub old_time : Bytes → ℕ → ℕ → Answer
old_time o s t = old_answer_of (kind_between o s t) o s t

unfoldable pub old_way : Bytes → ℕ → ℕ → List ℕ
old_way o s t = way (old_network o) s t

-- "A road closed in body 3 is closed under every sheet" (T-03): the network as a sheet left it, and the answers under a sheet.
unfoldable pub old_under : (ℕ → Effect) → Bytes → Network
old_under effect f = record { nodes = nodes (node_body f); edges = concat_map (left_of effect (edge_body f)) (open_in f) }

unfoldable pub old_stood : (ℕ → Effect) → Bytes → ℕ → ℕ → Bool
old_stood effect o s t = is_none (old_time o s t) || still_driven (λ v. distance (old_network o) v t) (arcs (old_under effect o)) (old_way o s t)

unfoldable pub old_time_under : (ℕ → Effect) → Bytes → ℕ → ℕ → Answer
old_time_under effect o s t = cond (old_stood effect o s t) (old_time o s t) (local_answer (old_under effect o) s t)

unfoldable pub old_way_under : (ℕ → Effect) → Bytes → ℕ → ℕ → List ℕ
old_way_under effect o s t = way (old_under effect o) s t
