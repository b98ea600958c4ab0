-- What the demands say of a call's outcome. Assumes nothing.
use Rattle.std.specs.Prelude.{ℕ, ◌+◌, ◌*◌, ◌≤◌, ◌≡◌, ◌⊎◌, ◌↔◌, true, false, length, take, drop}
use mathlib.Core.List.{List, [], ◌∷◌, ◌++◌, Memᴰ}
use Rattle.model.specs.Lists.{Distinct, concat_map}
use Rattle.model.specs.Bytes.{Bytes, bytes16}
use Rattle.model.specs.Contents.{node_body, grid_body, transit_body, access_body, table_body}
use Rattle.model.specs.Pair.{Pair, NoMore, add, LeastPairOf, pair_of}
use Rattle.model.specs.Walk.{Arc, PairWalk, nodes_of, Before}
use Rattle.model.specs.Distance.{finite}
use Rattle.model.specs.Network.{network}
use Rattle.model.specs.Grid.{Cell, grid_over, cells, cell_at}
use Rattle.model.specs.Oracle.{AccessEntry, transit_count, access_list, table_entry}
use Rattle.model.specs.Rules.{Rule, words_needed}
use Rattle.model.specs.Calls.{cleared}
use Rattle.model.specs.declared.Division.{Division}
use Rattle.model.specs.declared.Kind.{Kind}
use Rattle.model.specs.declared.Kind.TheVariants.{Far, Local}
use Rattle.model.specs.declared.Answer.{Answer}
use Rattle.model.specs.declared.Answer.TheVariants.{Time, None}
use Rattle.model.specs.declared.Built.{Built}
use Rattle.model.specs.declared.Route.{Route}

-- ---- demand 1: "hands back the number of the first rule broken and writes nothing"

-- k is the number of the first rule broken, the rules before it being kept; 0 where none is broken.
pub data FirstOf : List Rule → ℕ → Type 0 where
  none : FirstOf [] 0
  here : {r : Rule} {rs : List Rule} → r.broken ≡ true → FirstOf (r ∷ rs) r.number
  later : {r : Rule} {rs : List Rule} {k : ℕ} → r.broken ≡ false → FirstOf rs k → FirstOf (r ∷ rs) k

-- A call over the file f that checks these rules hands back k, with the working words and the output before and after it.
-- "1 to 14 write nothing; 15 and 16 set the first 8 × N working words to zero and leave output alone."
pub record Refuses (rules : List Rule) (k : ℕ) (f : Bytes) (work work' : List ℕ) (out out' : Bytes) : Type 0 where
  pub first : FirstOf rules k
  pub words : (k ≡ 0 → ⊥) → (k ≡ 15 → ⊥) → (k ≡ 16 → ⊥) → work' ≡ work
  pub zeroed : (k ≡ 15) ⊎ (k ≡ 16) → work' ≡ cleared (words_needed f) work
  pub bytes : (k ≡ 0 → ⊥) → out' ≡ out

-- ---- building

-- What `build` hands over: the first bytes of the output, as many as it says.
abbrev pub handed : Built → Bytes → Bytes
handed r out' = take r.size out'

-- ---- demand 3: times

-- "Two places are far when their columns or their rows differ by 5 or more": said of their cells.
abbrev pub FiveApart : ℕ → ℕ → Type 0
FiveApart a b = (a + 5 ≤ b) ⊎ (b + 5 ≤ a)

abbrev pub FarCells : Cell → Cell → Type 0
FarCells c e = FiveApart c.column e.column ⊎ FiveApart c.row e.row

-- The cell of node u by the nodes of a file's bytes and the grid over them under a division.
abbrev pub cell_in : Bytes → Division → ℕ → Cell
cell_in f dv u = cell_at (cells (grid_over dv (network f).nodes) (network f).nodes) u

-- Of a far answer, "its pairs tried is the product of the two list lengths"; of a local one, "its pairs tried is 0".
abbrev pub pairs_tried : Kind → Bytes → ℕ → ℕ → ℕ
pairs_tried Far o s t = length (access_list (access_body o) s) * length (access_list (access_body o) t)
pairs_tried Local o s t = 0

-- The answer that states this pair: "each answer states both numbers" (document 02, T-07).
abbrev pub timed : Pair → Kind → ℕ → Answer
timed p kind pairs = Time p.seconds p.hops kind pairs

-- The answer a is of this kind, with so many pairs tried, and no refusal: a time exactly where its seconds and hops are the least pair with P (it has P, and
-- every other with P has more seconds, or as many and no fewer hops), and 'none' exactly where no pair has P.
pub record Answers (P : Pair → Type 0) (kind : Kind) (pairs : ℕ) (a : Answer) : Type 0 where
  pub given : ((p : Pair) × (a ≡ timed p kind pairs)) ⊎ (a ≡ None kind pairs)
  pub least : (p : Pair) → (a ≡ timed p kind pairs) ↔ LeastPairOf P p
  pub none : (a ≡ None kind pairs) ↔ ((p : Pair) → P p → ⊥)

-- "d(s, a) + table(a, b) + d(b, t) over a in the list of s and b in the list of t, leaving out sums with a 'no walk' part": p is such a sum of pairs.
pub record FarSum (o : Bytes) (s t : ℕ) (p : Pair) : Type 0 where
  pub a : AccessEntry
  pub b : AccessEntry
  pub leaving : Memᴰ a (access_list (access_body o) s)
  pub entering : Memᴰ b (access_list (access_body o) t)
  pub x : ℕ
  pub y : ℕ
  pub z : ℕ
  pub first : a.distance ≡ finite x
  pub middle : table_entry (table_body o) (transit_count (transit_body o)) a.index b.index ≡ finite y
  pub last : b.distance ≡ finite z
  pub sum : add (add (pair_of x) (pair_of y)) (pair_of z) ≡ p

-- "Alike in places, grid, transit places, lists and table": bodies 1 and 4 to 7, the roads being free.
pub record Agree (o p : Bytes) : Type 0 where
  pub nodes : node_body o ≡ node_body p
  pub grid : grid_body o ≡ grid_body p
  pub transit : transit_body o ≡ transit_body p
  pub access : access_body o ≡ access_body p
  pub table : table_body o ≡ table_body p

-- ---- demand 3: the way

-- The nodes of a walk with the pair p stand at the front of the output. p is the least pair of all walks, and no other walk with that pair comes before
-- this one by node numbers. The way has as many roads as p has hops, and passes no node twice.
pub record WayWritten (arcs : List Arc) (s t : ℕ) (p : Pair) (out : Bytes) (r : Route) (out' : Bytes) : Type 0 where
  pub taken : PairWalk arcs s t p
  pub least : (q : Pair) → PairWalk arcs s t q → NoMore p q
  pub bytes : out' ≡ concat_map bytes16 (nodes_of taken.walk) ++ drop (length (concat_map bytes16 (nodes_of taken.walk))) out
  pub nodes : r.nodes ≡ length (nodes_of taken.walk)
  pub roads : r.nodes ≡ p.hops + 1
  pub once : Distinct (nodes_of taken.walk)
  pub first : (other : PairWalk arcs s t p)
      → (nodes_of other.walk ≡ nodes_of taken.walk) ⊎ Before (nodes_of taken.walk) (nodes_of other.walk)
