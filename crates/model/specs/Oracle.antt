-- The oracle: the bytes that building writes, what its bodies hold, and rules 8 to 11. Assumes nothing.
use Rattle.std.specs.Prelude.{ℕ, ◌+◌, ◌*◌, ◌/◌, Bool, not, ◌&&◌, ◌||◌, cond, List, [], ◌∷◌, ◌++◌, map, length, get_or, eqb, ltb, leb}
use Rattle.model.specs.Lists.{Part, gapless, any, concat, concat_map, index_of, rising, up_to}
use Rattle.model.specs.Bytes.{Bytes, word16, word32, bytes16, bytes32, number_size}
use Rattle.model.specs.Contents.{node_body, edge_body, closed_body, file, oracle_edition}
use Rattle.model.specs.Pair.{key, seconds_of, hops_of}
use Rattle.model.specs.Distance.{Distance, unreachable, finite}
use Rattle.model.specs.Network.{Network, network, order, distance}
use Rattle.model.specs.Grid.{grid_over, grid_broken, division, division_size, division_bytes}
use Rattle.model.specs.Access.{access_lists, transit_nodes}
use Rattle.model.specs.declared.Division.{Division}

-- ---- a distance in bodies 6 and 7: 32-bit seconds, and T-07's "16 bits for the roads after the seconds"

abbrev pub seconds_size : ℕ
seconds_size = 4

abbrev pub hops_size : ℕ
hops_size = 2

abbrev pub value_size : ℕ
value_size = seconds_size + hops_size

-- "The value 4,294,967,295 means 'no walk'", with "65,535" hops ..
abbrev pub no_seconds : ℕ
no_seconds = 4_294_967_295

abbrev pub no_hops : ℕ
no_hops = 65_535

abbrev pub no_walk : ℕ
no_walk = key no_seconds no_hops

-- .. "every other value is at most 409,500,000, which is 4,095 × 100,000", with "at most 4,095" hops.
abbrev pub max_value : ℕ
max_value = 409_500_000

abbrev pub max_hops : ℕ
max_hops = 4_095

-- The key for a distance, and back.
unfoldable pub coded : Distance → ℕ
coded unreachable = no_walk
coded (finite n) = n

unfoldable pub value_bytes : Distance → Bytes
value_bytes x = bytes32 (seconds_of (coded x)) ++ bytes16 (hops_of (coded x))

unfoldable pub decoded : ℕ → Distance
decoded v = cond (eqb v no_walk) unreachable (finite v)

-- The seconds and the hops at a position as a key, and the distance there.
unfoldable pub value_key : Bytes → ℕ → ℕ
value_key b position = key (word32 b position) (word16 b (position + seconds_size))

unfoldable pub value : Bytes → ℕ → Distance
value b position = decoded (value_key b position)

-- Out of range: not 'no walk', and too many seconds or too many hops.
unfoldable pub key_broken : ℕ → Bool
key_broken k = not (eqb k no_walk) && (ltb max_value (seconds_of k) || ltb max_hops (hops_of k))

unfoldable pub value_broken : Bytes → ℕ → Bool
value_broken b position = key_broken (value_key b position)

-- ---- building

-- "A list is a 16-bit count, then entries ..: a 16-bit index into body 5, rising within the list, and" a value: 8 bytes in all.
abbrev pub count_size : ℕ
count_size = 2

abbrev pub entry_size : ℕ
entry_size = number_size + value_size

-- The size of a list with this number of entries.
abbrev pub list_size : ℕ → ℕ
list_size count = count_size + entry_size * count

unfoldable pub entry_bytes : List ℕ → ℕ → Distance → Bytes
entry_bytes transit a d = bytes16 (index_of a transit) ++ value_bytes d

-- The list of node u, with the access nodes of its cell.
unfoldable pub list_bytes : (ℕ → ℕ → Distance) → List ℕ → ℕ → List ℕ → Bytes
list_bytes d transit u access = bytes16 (length access) ++ concat_map (λ a. entry_bytes transit a (d u a)) access

-- A start is a 32-bit number.
abbrev pub start_size : ℕ
start_size = 4

-- Where each list starts, the first of them at `at`.
unfoldable pub starts : ℕ → List Bytes → Bytes
starts at [] = []
starts at (l ∷ ls) = bytes32 at ++ starts (at + length l) ls

-- Body 6: "N 32-bit starts, counted from this body's beginning; then the lists in place order, without gaps."
unfoldable pub access_bytes : (ℕ → ℕ → Distance) → List ℕ → List (List ℕ) → Bytes
access_bytes d transit lists =
    let ls = map (λ u. list_bytes d transit u (get_or lists u [])) (up_to (length lists)) in
    starts (start_size * length lists) ls ++ concat ls

-- Body 7: "T rows of T" values, "table(a, b) in the row of a and the column of b".
unfoldable pub table_bytes : (ℕ → ℕ → Distance) → List ℕ → Bytes
table_bytes d transit = concat_map (λ a. concat_map (λ b. value_bytes (d a b)) transit) transit

-- The transit nodes of the network in f under a division.
unfoldable pub transit_of : Bytes → Division → List ℕ
transit_of f dv = let net = network f in transit_nodes (order net) (access_lists net (grid_over dv net.nodes))

-- The oracle over a network under a division, with these bodies 1 to 3.
unfoldable pub oracle_over : Network → Bytes → Bytes → Bytes → Division → Bytes
oracle_over net b1 b2 b3 dv =
    let lists = access_lists net (grid_over dv net.nodes) in
    let transit = transit_nodes (order net) lists in
    file oracle_edition
    (b1 ∷ b2 ∷ b3 ∷ division_bytes dv ∷ concat_map bytes16 transit ∷ access_bytes (distance net) transit lists ∷ table_bytes (distance net) transit ∷ [])

-- The oracle built under a division from f: "its bodies 1 to 3 are the network's own bytes".
unfoldable pub oracle : Bytes → Division → Bytes
unfolding oracle_over
oracle f dv = oracle_over (network f) (node_body f) (edge_body f) (closed_body f) dv

-- ---- reading

-- T, the number of transit nodes of a transit body.
unfoldable pub transit_count : Bytes → ℕ
transit_count b = length b / number_size

-- The list of node u within the access body b: where it starts, its number of entries, and its part of the body.
unfoldable pub list_start : Bytes → ℕ → ℕ
list_start b u = word32 b (start_size * u)

unfoldable pub list_count : Bytes → ℕ → ℕ
list_count b u = word16 b (list_start b u)

unfoldable pub list_part : Bytes → ℕ → Part
list_part b u = record { start = list_start b u; size = list_size (list_count b u) }

-- Entry i of that list.
pub record AccessEntry : Type 0 where
  pub index : ℕ
  pub distance : Distance

unfoldable pub access_at : Bytes → ℕ → ℕ → ℕ
access_at b u i = list_start b u + count_size + entry_size * i

unfoldable pub access_entry : Bytes → ℕ → ℕ → AccessEntry
access_entry b u i = record { index = word16 b (access_at b u i); distance = value b (access_at b u i + number_size) }

unfoldable pub access_list : Bytes → ℕ → List AccessEntry
access_list b u = map (access_entry b u) (up_to (list_count b u))

-- What stands in the row of transit node i and the column of transit node j of the table body b, for T transit nodes.
unfoldable pub table_entry : Bytes → ℕ → ℕ → ℕ → Distance
table_entry b T i j = value b (value_size * (i * T + j))

-- ---- the rules of the last four bodies (9 is `numbers_broken`)

-- Rule 8: "A grid body not of 2 bytes, or g .. outside 1 to 64."
unfoldable pub grid_body_broken : Bytes → Bool
grid_body_broken b = not (eqb (length b) division_size) || grid_broken (division b).g

-- Rule 10: "An access body that breaks its layout, an index not below T, or a value out of range."
unfoldable pub entry_broken : ℕ → Bytes → ℕ → ℕ → Bool
entry_broken T b u i = leb T (access_entry b u i).index || value_broken b (access_at b u i + number_size)

-- The indexes of the list of node u.
unfoldable pub indexes : Bytes → ℕ → List ℕ
indexes b u = map (λ e. e.index) (access_list b u)

unfoldable pub list_broken : ℕ → Bytes → ℕ → Bool
list_broken T b u = not (rising (indexes b u)) || any (entry_broken T b u) (up_to (list_count b u))

unfoldable pub access_broken : ℕ → ℕ → Bytes → Bool
access_broken n T b = not (gapless (start_size * n) (map (list_part b) (up_to n)) (length b)) || any (list_broken T b) (up_to n)

-- Rule 11: a table not of "6 × T × T" bytes (T-07), "or a value out of range".
unfoldable pub cell_broken : Bytes → ℕ → Bool
cell_broken b i = value_broken b (value_size * i)

unfoldable pub table_broken : ℕ → Bytes → Bool
table_broken T b = not (eqb (length b) (value_size * (T * T))) || any (cell_broken b) (up_to (T * T))
