-- The times from a node, as a search leaves them in the working words, and the way by them. Assumes nothing.
use Rattle.std.specs.Prelude.{ℕ, ◌≤◌, ◌≡◌, List, length}
use Rattle.model.specs.Bytes.{Bytes}
use Rattle.model.specs.Contents.{node_body, edge_body}
use Rattle.model.specs.Network.{node_count}
use Rattle.model.specs.Walk.{Arc}
use Rattle.algorithms.specs.Rounds.{distance_words}
use Rattle.arcs.specs.Arcs.{arcs_in}
use Rattle.words.specs.Regions.{times_in}
use Rattle.words.specs.Times.{time_words}
use Rattle.way.specs.Distances.{way_in}

-- The times are the distances from s in the oracle's network.
pub record TimesFrom (o : Bytes) (s : ℕ) (work : List ℕ) : Type 0 where
  pub times : times_in (node_count (node_body o)) work ≡ distance_words (arcs_in (edge_body o)) (node_count (node_body o)) s
  pub room : time_words (node_count (node_body o)) ≤ length work

-- The way from s to t over these arcs, by the distances from t: roads run both ways (theory `both_ways`).
unfoldable pub way_over : List Arc → ℕ → ℕ → ℕ → List ℕ
way_over arcs n s t = way_in (distance_words arcs n t) arcs s
