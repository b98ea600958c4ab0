-- A cursor over the edges at a node u. Assumes nothing.
use Rattle.std.specs.Prelude.{ℕ, ◌+◌, ◌-◌, ◌*◌, ◌/◌, ◌<◌, ◌≤◌, ◌≡◌, ◌⊎◌}
use mathlib.Core.List.{List, ◌∷◌, [], ◌++◌, Memᴰ}
use Rattle.model.specs.Bytes.{Bytes}
use Rattle.model.specs.Network.{edge_count}
use Rattle.index.specs.Index.{Reading, read_in, Lists, Within, Incident}
use Rattle.arcs.specs.declared.cursor.Cursor.{Cursor}

-- Edge j is among those from i on and below stop, or in a block of the chain from `link` on.
abbrev pub ToCome : Reading → ℕ → ℕ → ℕ → ℕ → ℕ → ℕ → Type 0
ToCome r n size i stop link j = ((i ≤ j) × (j < stop)) ⊎ ((0 < size) × Lists r n link (j / size))

-- Edge j comes after the edge that the cursor has found.
abbrev pub After : Reading → ℕ → Cursor → ℕ → Type 0
After r n c j = ToCome r n c.size (c.edge + 1) c.stop c.link j

-- The cursor has found an edge at u, or has come to the end: its edge is then the number of edges.
pub record Valid (edges : Bytes) (n : ℕ) (w : List ℕ) (u : ℕ) (c : Cursor) : Type 0 where
  pub size : c.size ≡ (read_in edges n w).size u
  pub link : Within n (read_in edges n w).reach c.link
  pub chain : (q : ℕ) → Lists (read_in edges n w) n c.link q → Lists (read_in edges n w) n ((read_in edges n w).next u) q
  pub stop : c.stop ≤ edge_count edges
  pub inside : c.edge < edge_count edges → c.edge < c.stop
  pub single : c.size ≡ 1 → c.stop ≤ c.edge + 1
  pub here : c.edge < edge_count edges → Incident edges u c.edge
  pub over : edge_count edges ≤ c.edge → (j : ℕ) → After (read_in edges n w) n c j → ⊥

-- The edges of `done` are passed: each is an edge at u, and each other one is where the cursor stands or comes after.
pub record PassedEdges (edges : Bytes) (n : ℕ) (w : List ℕ) (u : ℕ) (done : List ℕ) (c : Cursor) : Type 0 where
  pub valid : Valid edges n w u c
  pub real : (j : ℕ) → Memᴰ j done → Incident edges u j
  pub full : (j : ℕ) → Incident edges u j → Memᴰ j done ⊎ ((j ≡ c.edge) ⊎ After (read_in edges n w) n c j)

-- What falls from edge to edge, for the measure of a loop.
unfoldable pub rank : Bytes → Cursor → ℕ
rank edges c = c.link * (edge_count edges + 1) + (c.stop - c.edge)

-- The cursor c' is on from c.
pub record Stepped (edges : Bytes) (n : ℕ) (w : List ℕ) (u : ℕ) (c c' : Cursor) : Type 0 where
  pub valid : Valid edges n w u c'
  pub passing : (done : List ℕ) → PassedEdges edges n w u done c → PassedEdges edges n w u (done ++ c.edge ∷ []) c'
  pub less : rank edges c' < rank edges c
