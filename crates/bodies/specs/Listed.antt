-- Body 6 while its lists are written, cell by cell. Assumes nothing.
use Rattle.std.specs.Prelude.{ℕ, ◌*◌, ◌<◌, ◌≤◌, ◌≡◌, List, length, take}
use Rattle.model.specs.Bytes.{Bytes}
use Rattle.model.specs.Network.{max_nodes, node_count}
use Rattle.model.specs.Oracle.{start_size}
use Rattle.index.specs.Index.{IndexedEdges}
use Rattle.grid.specs.declared.Grid.{Grid}
use Rattle.crossing.specs.Ground.{cells_in, Ground}
use Rattle.words.specs.Regions.{transit, count_of}
use Rattle.passes.specs.Building.{access_of, transit_in, list_in, members_in}
use Rattle.passes.specs.Covered.{Seen, SeenTo}
use Rattle.passes.specs.Stands.{Stands, front, whole}
use Rattle.words.specs.Frames.{Enough}

-- What the lists are worked out by: an accepted network of n nodes with a grid, and working words with its transit nodes and the index of its edges.
pub record Based (nodes edges : Bytes) (grid : Grid) (n : ℕ) (work : List ℕ) : Type 0 where
  pub on_ground : Ground nodes edges grid
  pub count : n ≡ node_count nodes
  pub few : n ≤ max_nodes
  pub words : Enough n work
  pub some : 1 ≤ n
  pub transits : members_in n transit work ≡ transit_in nodes edges grid
  pub roads : IndexedEdges edges n work

-- A body with the size of the whole one, and with its starts.
pub record Begun (n : ℕ) (list : ℕ → Bytes) (body : Bytes) : Type 0 where
  pub size : length body ≡ length (whole n list)
  pub small : length (whole n list) < 4294967296
  pub starts : take (start_size * n) body ≡ front n list

-- The lists of the nodes of all cells met before u are written.
pub record Listed (nodes edges : Bytes) (grid : Grid) (n u : ℕ) (body : Bytes) : Type 0 where
  pub begun : Begun n (list_in nodes edges grid) body
  pub seen : Seen (cells_in grid nodes) (Stands n (list_in nodes edges grid) body) n u

-- And those of the nodes below v of the cell of u.
pub record ListedTo (nodes edges : Bytes) (grid : Grid) (n u v : ℕ) (body : Bytes) : Type 0 where
  pub begun : Begun n (list_in nodes edges grid) body
  pub seen : SeenTo (cells_in grid nodes) (Stands n (list_in nodes edges grid) body) n u v

-- The count of each node in the working words is the number of its access nodes.
abbrev pub Counts : Bytes → Bytes → Grid → ℕ → List ℕ → Type 0
Counts nodes edges grid n work = (v : ℕ) → v < n → count_of n work v ≡ length (access_of nodes edges grid v)
