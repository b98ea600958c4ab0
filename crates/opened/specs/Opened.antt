-- An opened oracle: well-shaped, with its grid and the index of its edges in the working words. Assumes nothing.
use Rattle.std.specs.Prelude.{ℕ, ◌+◌, ◌≤◌, ◌≡◌, true, List, length, get_or}
use Rattle.model.specs.Bytes.{Bytes}
use Rattle.model.specs.Contents.{node_body, edge_body}
use Rattle.model.specs.Network.{node_count}
use Rattle.model.specs.Grid.{Grid, inner_radius, outer_radius}
use Rattle.model.specs.Rules.{first_broken, well_shaped, words_needed}
use Rattle.words.specs.Regions.{grid_at}
use Rattle.index.specs.Index.{IndexedEdges}
use Rattle.checks.specs.Grids.{oracle_grid}
use Rattle.checks.specs.RuleLists.{room_rules}
use Rattle.words.specs.Frames.{KeptFrom}

-- The numbers of the grid in the working words; the radii need none.
abbrev pub grid_in : ℕ → List ℕ → Grid
grid_in n w = record {
  g = get_or w (grid_at n) 0;
  inner = inner_radius;
  outer = outer_radius;
  left = get_or w (grid_at n + 1) 0;
  bottom = get_or w (grid_at n + 2) 0;
  spread = get_or w (grid_at n + 3) 0;
}

-- What the functions that answer without checking ask for.
pub record Opened (o : Bytes) (w : List ℕ) : Type 0 where
  pub shape : well_shaped o ≡ true
  pub room : words_needed o ≤ length w
  pub grid : grid_in (node_count (node_body o)) w ≡ oracle_grid o
  pub roads : IndexedEdges (edge_body o) (node_count (node_body o)) w

-- Opening: 0 and an opened oracle, or the number of the broken rule and nothing written.
pub record OpenCall (o : Bytes) (w : List ℕ) (r : ℕ) (w' : List ℕ) : Type 0 where
  pub rule : r ≡ first_broken (room_rules o (length w))
  pub opened : r ≡ 0 → Opened o w'
  pub unwritten : (r ≡ 0 → ⊥) → w' ≡ w
  pub rest : KeptFrom (words_needed o) w w'

-- What an answer leaves: the oracle is still opened, and the words behind those that it needs stay.
pub record Stays (o : Bytes) (w w' : List ℕ) : Type 0 where
  pub opened : Opened o w'
  pub rest : KeptFrom (words_needed o) w w'
