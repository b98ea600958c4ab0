-- The index of the edges at each node, in the lent words: for each node a chain of entries, each for a block of consecutive edges. Assumes nothing.
-- A position below n is a node's, and the others are entries'. A link below n ends a chain. The words are read in one of two ways:
--   by links    where two entries for each edge fit at 16 bits each: entry n + 2 i + s is that of edge i at its first (0) or second (1) end, so it holds the
--               next link and nothing else, and its block is edge i alone
--   by blocks   else: the word of a node holds the size of the blocks, times 65536, and where its chain begins; the word of an entry holds the number of a
--               block, times 65536, and the next entry. Where the size is 0 there are no chains: a node's edges are then among all edges
use Rattle.std.specs.Prelude.{ℕ, ◌+◌, ◌-◌, ◌*◌, ◌/◌, ◌%◌, ◌<◌, ◌≤◌, ◌≡◌, Bool, true, false, cond, List, ◌⊎◌, leb, length, get_or}
use Rattle.model.specs.Bytes.{Bytes}
use Rattle.model.specs.Network.{edge, edge_count, some_edge_broken}
use Rattle.words.specs.Halves.{half}
use Rattle.words.specs.Regions.{index_words, index_in}

-- ---- how the words are read

-- The link of a position, the block of an entry, the edges to a block at a node, and how many positions there are.
pub record Reading : Type 0 where
  pub next : ℕ → ℕ
  pub block : ℕ → ℕ
  pub size : ℕ → ℕ
  pub reach : ℕ

abbrev pub by_links : ℕ → List ℕ → Reading
by_links n ix = record { next = half ix; block = λ p. (p - n) / 2; size = λ u. 1; reach = 2 * length ix }

unfoldable pub next : List ℕ → ℕ → ℕ
next ix p = get_or ix p 0 % 65536

unfoldable pub block : List ℕ → ℕ → ℕ
block ix p = get_or ix p 0 / 65536

abbrev pub by_blocks : List ℕ → Reading
by_blocks ix = record { next = next ix; block = block ix; size = block ix; reach = length ix }

-- Whether n nodes and two entries for each of m edges fit at 16 bits each.
unfoldable pub linked : ℕ → ℕ → Bool
linked n m = leb (n + 2 * m) (2 * index_words n)

unfoldable pub reading : ℕ → ℕ → List ℕ → Reading
reading n m ix = cond (linked n m) (by_links n ix) (by_blocks ix)

-- How the index of the edges is read in the lent words.
abbrev pub read_in : Bytes → ℕ → List ℕ → Reading
read_in edges n w = reading n (edge_count edges) (index_in n w)

-- ---- chains

-- Block q is in the chain from e on.
pub data Lists (r : Reading) (n : ℕ) : ℕ → ℕ → Type 0 where
  here : {e q : ℕ} → n ≤ e → r.block e ≡ q → Lists r n e q
  there : {e q : ℕ} → n ≤ e → Lists r n (r.next e) q → Lists r n e q

-- A link that is no end is to a position below k.
abbrev pub Within : ℕ → ℕ → ℕ → Type 0
Within n k e = n ≤ e → e < k

-- Edge j has an end at u.
pub record Incident (edges : Bytes) (u j : ℕ) : Type 0 where
  pub below : j < edge_count edges
  pub end : ((edge edges j).first ≡ u) ⊎ ((edge edges j).second ≡ u)

-- The edges below i are in the chains of their ends, in blocks of `size`; the positions below k are in use, and each chain goes down. In blocks of one edge
-- nothing else is listed.
pub record Chained (edges : Bytes) (i n size k : ℕ) (r : Reading) : Type 0 where
  pub sized : (u : ℕ) → u < n → r.size u ≡ size
  pub heads : (u : ℕ) → u < n → Within n k (r.next u)
  pub links : (p : ℕ) → 0 < n → n ≤ p → r.next p < p
  pub covers : (u j : ℕ) → u < n → j < i → 0 < size → Incident edges u j → Lists r n (r.next u) (j / size)
  pub single : size ≡ 1 → (u q : ℕ) → u < n → Lists r n (r.next u) q → Incident edges u q

-- The words ix are an index of the edges. Blocks of one edge are read by links.
pub record IndexOf (edges : Bytes) (n : ℕ) (ix : List ℕ) : Type 0 where
  pub size : ℕ
  pub small : size ≤ 16384
  pub one : size ≡ 1 → linked n (edge_count edges) ≡ true
  pub chained : Chained edges (edge_count edges) n size (reading n (edge_count edges) ix).reach (reading n (edge_count edges) ix)

abbrev pub Indexed : Bytes → ℕ → List ℕ → Type 0
Indexed edges n w = IndexOf edges n (index_in n w)

-- What walking by the lent words goes by: edges that keep rule 6, and their index.
pub record IndexedEdges (edges : Bytes) (n : ℕ) (w : List ℕ) : Type 0 where
  pub ends : some_edge_broken n edges ≡ false
  pub indexed : Indexed edges n w
