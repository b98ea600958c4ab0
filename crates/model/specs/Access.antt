-- Crossing nodes, access nodes and transit nodes. Assumes nothing.
use Rattle.std.specs.Prelude.{ℕ, min, Bool, ◌&&◌, List, map, length}
use Rattle.std.specs.Bool.{xor}
use Rattle.model.specs.Lists.{any, filter, member, up_to}
use Rattle.model.specs.Distance.{Distance, plus, agree}
use Rattle.model.specs.Network.{Edge, Network, distance}
use Rattle.model.specs.Grid.{Grid, Cell, cells, cell_at, within}

-- The crossing node of an edge: "the end with the smaller number, even if that end lies far off".
unfoldable pub crossing_end : Edge → ℕ
crossing_end e = min e.first e.second

-- The edge has one end inside the square of radius r about c and one outside; `cs` are the nodes' cells.
unfoldable pub crosses : List Cell → ℕ → Cell → Edge → Bool
crosses cs r c e = xor (within r c (cell_at cs e.first)) (within r c (cell_at cs e.second))

-- "The crossing places of a square are taken from each open road with one end inside it and one outside."
unfoldable pub crossings : List Cell → List Edge → ℕ → Cell → List ℕ
crossings cs es r c = map crossing_end (filter (crosses cs r c) es)

-- "d(p, q) finite and d(p, a) + d(a, q) = d(p, q)", in pairs (T-07): a lies on a least walk from p to q, one of perhaps many. Keys add as the pairs do, since
-- no least walk has more hops than there are nodes (`theory`, Keys `key_equation`).
unfoldable pub between : (ℕ → ℕ → Distance) → ℕ → ℕ → ℕ → Bool
between d p q a = agree (plus (d p a) (d a q)) (d p q)

-- The access nodes of the cell c, rising: "a crossing place a of inner for which some crossing place p of C and some crossing place q of outer" have
-- that. The radii of inner and outer are the grid's.
unfoldable pub access_nodes : (ℕ → ℕ → Distance) → Grid → List Cell → List Edge → Cell → List ℕ
access_nodes d grid cs es c =
    let ps = crossings cs es 0 c in
    let inner = crossings cs es grid.inner c in
    let qs = crossings cs es grid.outer c in
    filter (λ a. member a inner && any (λ p. any (λ q. between d p q a) qs) ps) (up_to (length cs))

-- "A place has the access list of its cell": for each node the access nodes of its cell.
unfoldable pub access_lists : Network → Grid → List (List ℕ)
access_lists net grid =
    let cs = cells grid net.nodes in
    map (access_nodes (distance net) grid cs net.edges) cs

-- The transit nodes, rising: "all access places of all cells". A cell without nodes has no crossing node and so no access node,
-- so the nodes' cells are enough (`theory`, Transit).
unfoldable pub transit_nodes : ℕ → List (List ℕ) → List ℕ
transit_nodes n lists = filter (λ a. any (member a) lists) (up_to n)
