-- How a cursor is moved on. Assumes nothing.
use Rattle.std.specs.Prelude.{ℕ, ◌+◌, ◌*◌, ◌<◌, ◌≤◌, min, ◌≡◌, List, ◌⊎◌}
use Rattle.model.specs.Bytes.{Bytes}
use Rattle.model.specs.Network.{edge_count}
use Rattle.index.specs.Index.{Reading, read_in, Lists, Within, Incident}
use Rattle.arcs.specs.declared.cursor.Cursor.{Cursor}
use Rattle.arcs.specs.Cursor.{ToCome, After, Valid, rank}

-- The cursor at the end.
abbrev pub ending : Bytes → ℕ → Cursor
ending edges size = record { edge = edge_count edges; stop = edge_count edges; link = 0; size = size }

-- In blocks of one edge: the cursor at the entry p of a chain.
pub record AtEntry (edges : Bytes) (n : ℕ) (r : Reading) (p : ℕ) (c : Cursor) : Type 0 where
  pub ended : p < n → c ≡ ending edges 1
  pub entry : n ≤ p → c ≡ record { edge = r.block p; stop = r.block p + 1; link = r.next p; size = 1 }

-- r is the first edge at u from i on and below stop, or stop where there is none.
pub record FirstIncident (edges : Bytes) (u i stop r : ℕ) : Type 0 where
  pub low : i ≤ r
  pub high : r ≤ stop
  pub passed : (j : ℕ) → i ≤ j → j < r → Incident edges u j → ⊥
  pub found : r < stop → Incident edges u r

-- The whole block of the entry p, of at most m edges in all.
abbrev pub block_at : ℕ → Reading → ℕ → ℕ → Cursor
block_at m r size p = record { edge = min (r.block p * size) m; stop = min (r.block p * size + size) m; link = r.next p; size = size }

-- Edge j is where the cursor stands or after it.
abbrev pub From : Reading → ℕ → Cursor → ℕ → Type 0
From r n c j = ToCome r n c.size c.edge c.stop c.link j

-- The cursor c is a place to look on from, in blocks that are not of one edge.
pub record Seeking (edges : Bytes) (n : ℕ) (w : List ℕ) (u : ℕ) (c : Cursor) : Type 0 where
  pub size : c.size ≡ (read_in edges n w).size u
  pub several : c.size ≡ 1 → ⊥
  pub link : Within n (read_in edges n w).reach c.link
  pub chain : (q : ℕ) → Lists (read_in edges n w) n c.link q → Lists (read_in edges n w) n ((read_in edges n w).next u) q
  pub stop : c.stop ≤ edge_count edges
  pub low : c.edge ≤ c.stop

-- From c₀ one may look on from c: no edge at u is left behind.
pub record Onward (edges : Bytes) (n : ℕ) (w : List ℕ) (u : ℕ) (c₀ c : Cursor) : Type 0 where
  pub seeking : Seeking edges n w u c
  pub keeps : (j : ℕ) → Incident edges u j → From (read_in edges n w) n c₀ j → From (read_in edges n w) n c j
  pub less : rank edges c ≤ rank edges c₀

-- Looking on from c₀ has come to c: no edge at u is left behind.
pub record Since (edges : Bytes) (n : ℕ) (w : List ℕ) (u : ℕ) (c₀ c : Cursor) : Type 0 where
  pub seeking : Seeking edges n w u c
  pub found : c.edge < c.stop → Incident edges u c.edge
  pub keeps : (j : ℕ) → Incident edges u j → From (read_in edges n w) n c₀ j → From (read_in edges n w) n c j
  pub less : rank edges c ≤ rank edges c₀

-- Looking on from c₀ has found what c says.
pub record FoundFrom (edges : Bytes) (n : ℕ) (w : List ℕ) (u : ℕ) (c₀ c : Cursor) : Type 0 where
  pub valid : Valid edges n w u c
  pub keeps : (j : ℕ) → Incident edges u j → From (read_in edges n w) n c₀ j → (j ≡ c.edge) ⊎ After (read_in edges n w) n c j
  pub less : rank edges c ≤ rank edges c₀
