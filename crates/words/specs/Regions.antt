-- What stands where in the working words, document 01's "8 × N words of 32 bits" (`work_words n` of them, model Rules). Assumes nothing.
--   0                the seconds of each node's time
--   n                the queue of a search, and its settle order when it has ended
--   2 n              the hops of each node's time, numbers of 16 bits, two to a word
--   queue_words n     sets of nodes, one bit a node: settled, and after a search the marks; wanted; own; gathered; transit
--   behind the sets  a number of 16 bits for each node, two to a word: the counts
--   behind them      room that is not in use
--   index_at n        the index of the edges, up to the end
-- An opened oracle has its grid behind the wanted set, and a day sheet's spans behind the grid, up to the index.
use Rattle.std.specs.Prelude.{ℕ, zero, suc, ◌+◌, ◌-◌, ◌*◌, ◌/◌, min, List, map, take, drop}
use Rattle.model.specs.Lists.{up_to}
use Rattle.model.specs.Rules.{work_words}
use Rattle.bitset.specs.Bits.{set_words, flags}
use Rattle.words.specs.Halves.{half_words, half, put_half}
use Rattle.words.specs.Times.{hops_at, time}

-- ---- where parts begin

-- 1 from two nodes on, and else 0: one node alone is never searched, and its 8 words have room for neither hops nor an index.
abbrev pub several : ℕ → ℕ
several n = min 1 (n - 1)

-- The words of the hops: from two nodes on (n + 1) / 2.
abbrev pub hop_words : ℕ → ℕ
hop_words n = (n - 1) / 2 + several n

-- The words of a search's queue with the times, and all that a search is lent: behind them the settled set.
abbrev pub queue_words : ℕ → ℕ
queue_words n = hops_at n + hop_words n

abbrev pub search_words : ℕ → ℕ
search_words n = queue_words n + set_words n

-- Where region k begins.
abbrev pub region_at : ℕ → ℕ → ℕ
region_at n zero = 0
region_at n (suc zero) = n
region_at n (suc (suc k)) = queue_words n + k * set_words n

-- The regions' numbers, as in the code.
abbrev pub marks : ℕ
marks = 2

abbrev pub want : ℕ
want = 3

abbrev pub own : ℕ
own = 4

abbrev pub gathered : ℕ
gathered = 5

abbrev pub transit : ℕ
transit = 6

abbrev pub counts : ℕ
counts = 7

-- Where the numbers of an opened oracle's grid stand.
abbrev pub grid_at : ℕ → ℕ
grid_at n = search_words n + set_words n

abbrev pub grid_words : ℕ
grid_words = 4

-- Where the index stands, and how many words it has. Before it there is room for T-11's two numbers of the grid with a span behind them: from two nodes on,
-- three words more than a word a node for hops and counts. For one node there is no room, and no index.
abbrev pub spare_words : ℕ → ℕ
spare_words n = 3 * several n

abbrev pub index_at : ℕ → ℕ
index_at n = 3 * n + 5 * set_words n + spare_words n

-- The same from two nodes on, as the code has it.
abbrev pub place_at : ℕ → ℕ
place_at n = 3 * n + 5 * set_words n + 3

abbrev pub index_words : ℕ → ℕ
index_words n = work_words n - index_at n

-- Where the spans of a day sheet's lines stand, between the grid and the index, and how many there are. One node alone has none.
abbrev pub spans_at : ℕ → ℕ
spans_at n = grid_at n + grid_words

abbrev pub span_count : ℕ → ℕ
span_count n = index_at n - spans_at n

-- ---- what they hold

-- The words that a search is lent, and those of them that its queue is lent.
abbrev pub front_in : ℕ → List ℕ → List ℕ
front_in n work = take (search_words n) work

abbrev pub queue_in : ℕ → List ℕ → List ℕ
queue_in n work = take (queue_words n) work

-- The time of each node.
unfoldable pub times_in : ℕ → List ℕ → List ℕ
times_in n work = map (time n work) (up_to n)

-- The settled nodes from position e on, in an order that is filled from its end: the last settled stands first.
abbrev pub order_in : ℕ → ℕ → List ℕ → List ℕ
order_in n e work = drop e (take n (drop n work))

-- The settled set as flags, and the marks, which stand over it when it is not needed any more.
unfoldable pub settled_in : ℕ → List ℕ → List ℕ
settled_in n work = flags n (drop (queue_words n) work)

abbrev pub marks_in : ℕ → List ℕ → List ℕ
marks_in n work = flags n (drop (queue_words n) work)

-- The nodes that a search is to settle, as flags.
unfoldable pub want_in : ℕ → List ℕ → List ℕ
want_in n work = flags n (drop (search_words n) work)

-- The words of the set of nodes in region k, and that set as flags.
abbrev pub region : ℕ → ℕ → List ℕ → List ℕ
region n k work = take (set_words n) (drop (region_at n k) work)

abbrev pub region_flags : ℕ → ℕ → List ℕ → List ℕ
region_flags n k work = flags n (drop (region_at n k) work)

-- The words of the counts, and the count of node v.
abbrev pub counts_in : ℕ → List ℕ → List ℕ
counts_in n work = take (half_words n) (drop (region_at n counts) work)

unfoldable pub count_of : ℕ → List ℕ → ℕ → ℕ
count_of n work v = half work (2 * region_at n counts + v)

-- The words with k as the count of node v.
abbrev pub put_count : ℕ → List ℕ → ℕ → ℕ → List ℕ
put_count n work v k = put_half work (2 * region_at n counts + v) k

-- The spans of a day sheet's lines.
unfoldable pub spans_in : ℕ → List ℕ → List ℕ
spans_in n work = take (span_count n) (drop (spans_at n) work)

-- The words of the index.
unfoldable pub index_in : ℕ → List ℕ → List ℕ
index_in n work = take (index_words n) (drop (index_at n) work)
