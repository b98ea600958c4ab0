-- The parts of an oracle as bytes, from the sizes of the bodies, the members of the sets and the times as keys. Assumes nothing.
use Rattle.std.specs.Prelude.{ℕ, suc, ◌+◌, ◌*◌, ◌<◌, ◌≤◌, List, [], ◌∷◌, ◌++◌, map, length, get_or}
use Rattle.model.specs.Lists.{concat_map, index_of, up_to}
use Rattle.model.specs.Bytes.{Bytes, bytes16, bytes32}
use Rattle.model.specs.Contents.{entry_at}
use Rattle.model.specs.Network.{max_nodes}
use Rattle.model.specs.Oracle.{value_bytes, decoded, list_size}
use Rattle.theory.specs.FileLaws.{nine}
use Rattle.words.specs.Halves.{half}

-- ---- the head of a file

-- The entries of bodies of these sizes, the first of kind k + 1 at position `at`. `nine` is the bytes of one entry.
unfoldable pub entries_of : ℕ → ℕ → List ℕ → Bytes
entries_of k at [] = []
entries_of k at (s ∷ ss) = nine k at s ++ entries_of (suc k) (at + s) ss

-- The bytes up to the first body.
unfoldable pub head_bytes : ℕ → List ℕ → Bytes
head_bytes edition sizes = edition ∷ (length sizes ∷ entries_of 0 (entry_at (length sizes)) sizes)

-- ---- bodies 5 and 7: the transit nodes, and a row of the table

unfoldable pub numbers_bytes : List ℕ → Bytes
numbers_bytes l = concat_map bytes16 l

-- The time to b, a key that a search leaves, as a value.
unfoldable pub time_bytes : List ℕ → ℕ → Bytes
time_bytes times b = value_bytes (decoded (get_or times b 0))

unfoldable pub row_bytes : List ℕ → List ℕ → Bytes
row_bytes times l = concat_map (time_bytes times) l

-- ---- body 6: the starts, and the list of a node

unfoldable pub starts_of : ℕ → List ℕ → Bytes
starts_of at [] = []
starts_of at (s ∷ ss) = bytes32 at ++ starts_of (at + s) ss

-- The sizes of the first n lists, from their numbers of entries, two to a word.
unfoldable pub list_sizes : ℕ → List ℕ → List ℕ
list_sizes n counts = map (λ v. list_size (half counts v)) (up_to n)

-- Each of the first n lists has a number of entries, which is at most that of all nodes.
abbrev pub Counted : ℕ → List ℕ → Type 0
Counted n counts = (n ≤ max_nodes) × (n ≤ 2 * length counts) × ((v : ℕ) → v < n → half counts v ≤ max_nodes)

-- An entry with this index for node a.
unfoldable pub indexed_bytes : List ℕ → ℕ → ℕ → Bytes
indexed_bytes times index a = bytes16 index ++ time_bytes times a

unfoldable pub list_bytes_of : List ℕ → List ℕ → List ℕ → Bytes
list_bytes_of times transit access = bytes16 (length access) ++ concat_map (λ a. indexed_bytes times (index_of a transit) a) access
