-- The network of a file: nodes and edges, the arcs of its edges, distances, and rules 3 to 7 and 21. Assumes nothing.
-- A node is document 01's place, an edge its road. A network file and an oracle hold them alike, in their first two bodies. Body 3, the closed roads, must
-- be empty (rule 21), so that every edge is open; what it once said stands with the converter (`convert`, Old).
use Rattle.std.specs.Prelude.{ℕ, ◌+◌, ◌*◌, ◌/◌, ◌%◌, Bool, not, ◌||◌, List, [], ◌∷◌, map, length, eqb, ltb, leb}
use Rattle.model.specs.Lists.{any, concat_map, rising, up_to}
use Rattle.model.specs.Bytes.{Bytes, word16, word32, number_size, words16}
use Rattle.model.specs.Contents.{node_body, edge_body}
use Rattle.model.specs.Pair.{key}
use Rattle.model.specs.Walk.{Arc}
use Rattle.model.specs.Distance.{Distance, dist}

-- ---- what the bodies hold

-- "x and y, signed 32-bit metres from −1,000,000 to 1,000,000." A coordinate is held with 1,000,000 added, so that it is a natural number
-- and the range is 0 to 2,000,000. u is the 32-bit number as it stands in the file: `theory`, Signed, ties it to the signed number.
abbrev pub max_metres : ℕ
max_metres = 1_000_000

unfoldable pub coordinate : ℕ → ℕ
coordinate u = (u + max_metres) % 4_294_967_296

pub record Node : Type 0 where
  pub x : ℕ
  pub y : ℕ

-- An edge between two ends: "two 16-bit ends and 32-bit seconds".
pub record Edge : Type 0 where
  pub first : ℕ
  pub second : ℕ
  pub seconds : ℕ

-- Node i and edge i of their bodies.
abbrev pub node_size : ℕ
node_size = 8

abbrev pub edge_size : ℕ
edge_size = 8

unfoldable pub node : Bytes → ℕ → Node
node b i = record { x = coordinate (word32 b (node_size * i)); y = coordinate (word32 b (node_size * i + 4)) }

unfoldable pub edge : Bytes → ℕ → Edge
edge b i = record { first = word16 b (edge_size * i); second = word16 b (edge_size * i + 2); seconds = word32 b (edge_size * i + 4) }

-- The number of nodes (document 01's N) of a body, and of edges.
unfoldable pub node_count : Bytes → ℕ
node_count b = length b / node_size

unfoldable pub edge_count : Bytes → ℕ
edge_count b = length b / edge_size

unfoldable pub nodes : Bytes → List Node
nodes b = map (node b) (up_to (node_count b))

unfoldable pub edges : Bytes → List Edge
edges b = map (edge b) (up_to (edge_count b))

-- ---- the network

-- What walks and crossings go by: the nodes and the edges.
pub record Network : Type 0 where
  pub nodes : List Node
  pub edges : List Edge

unfoldable pub network : Bytes → Network
network f = record { nodes = nodes (node_body f); edges = edges (edge_body f) }

-- The number of nodes.
unfoldable pub order : Network → ℕ
order net = length net.nodes

-- "Roads run both ways": an edge is an arc each way.
abbrev pub both_ways : Edge → ℕ → List Arc
both_ways e cost = record { from = e.first; to = e.second; cost = cost } ∷ record { from = e.second; to = e.first; cost = cost } ∷ []

-- The arcs with their seconds: "a walk's total is the sum of its roads' seconds". The promises are about walks over these.
unfoldable pub timed_of : Edge → List Arc
timed_of e = both_ways e e.seconds

unfoldable pub timed_arcs : Network → List Arc
timed_arcs net = concat_map timed_of net.edges

-- The arcs with the keys of their pairs, so many seconds and one hop.
unfoldable pub arcs_of : Edge → List Arc
arcs_of e = both_ways e (key e.seconds 1)

unfoldable pub arcs : Network → List Arc
arcs net = concat_map arcs_of net.edges

-- "d(u, t)", which T-07 makes the least pair over all walks from u to t; "it is finite exactly when there is one".
unfoldable pub distance : Network → ℕ → ℕ → Distance
distance net u t = dist (arcs net) (order net) u t

-- ---- the rules of the three bodies

abbrev pub max_nodes : ℕ
max_nodes = 4096

abbrev pub max_edges : ℕ
max_edges = 16384

abbrev pub max_seconds : ℕ
max_seconds = 100_000

-- Rule 3: "A places body that is no multiple of 8, or a place count outside 1 to 4,096."
unfoldable pub nodes_broken : Bytes → Bool
nodes_broken b = not (eqb (length b % node_size) 0) || ltb (node_count b) 1 || ltb max_nodes (node_count b)

-- Rule 4: "A coordinate outside its range."
unfoldable pub node_broken : Node → Bool
node_broken v = ltb (max_metres + max_metres) v.x || ltb (max_metres + max_metres) v.y

unfoldable pub coordinates_broken : Bytes → Bool
coordinates_broken b = any node_broken (nodes b)

-- Rule 5: "A roads body that is no multiple of 8, or over 16,384 roads."
unfoldable pub edges_broken : Bytes → Bool
edges_broken b = not (eqb (length b % edge_size) 0) || ltb max_edges (edge_count b)

-- Rule 6: "A road with an end not below N, equal ends", or over 100,000 seconds: T-07, "Seconds run from 0, so they cause 01's sixth refusal only above
-- 100,000".
unfoldable pub edge_broken : ℕ → Edge → Bool
edge_broken n e = leb n e.first || leb n e.second || eqb e.first e.second || ltb max_seconds e.seconds

unfoldable pub some_edge_broken : ℕ → Bytes → Bool
some_edge_broken n b = any (edge_broken n) (edges b)

-- Rules 7 and 9: "A closed list [a transit body] of odd length, not rising, or naming no road [no place]", of which there are `limit`.
unfoldable pub numbers_broken : ℕ → Bytes → Bool
numbers_broken limit b = not (eqb (length b % number_size) 0) || not (rising (words16 b)) || any (leb limit) (words16 b)

-- Rule 21: "when body 3 holds a well-formed entry" (document 02, T-06). Past rule 7 every entry is well-formed, so a body that is not empty holds one.
unfoldable pub closed_listed : Bytes → Bool
closed_listed b = not (eqb (length b) 0)
