-- The search of a row: the nodes that it is to settle, and the times that it leaves for the row's squares. Assumes nothing.
use Rattle.std.specs.Prelude.{ℕ, ◌+◌, ◌≤◌, ◌<◌, ◌≡◌, true, List, length, get_or, drop}
use Rattle.model.specs.Bytes.{Bytes}
use Rattle.model.specs.Contents.{node_body}
use Rattle.model.specs.Network.{network, node_count, distance}
use Rattle.model.specs.Oracle.{coded}
use Rattle.model.specs.Rules.{local_pair}
use Rattle.algorithms.specs.Dijkstra.{at}
use Rattle.algorithms.specs.Stops.{nonzeros}
use Rattle.bitset.specs.Bits.{is_in}
use Rattle.words.specs.Regions.{region_at, want, want_in}
use Rattle.words.specs.Times as times

-- The wanted set of a search over the oracle, as flags.
abbrev pub wanted_in : Bytes → List ℕ → List ℕ
wanted_in o work = want_in (node_count (node_body o)) work

-- It has s, those of the first j ends that are local to s, and no node that is not local to s; `left` others than s.
pub record Wants (o : Bytes) (s : ℕ) (ends : List ℕ) (j left : ℕ) (wanted : List ℕ) : Type 0 where
  pub near : (i : ℕ) → i < j → local_pair o s (get_or ends i 0) ≡ true → 0 < at wanted (get_or ends i 0)
  pub only : (v : ℕ) → 0 < at wanted v → local_pair o s v ≡ true
  pub count : nonzeros wanted ≡ left + 1
  pub fits : left ≤ j
  pub alone : left ≡ 0 → (v : ℕ) → 0 < at wanted v → v ≡ s

-- From the flags w to w' the end t is counted in, for k nodes more.
abbrev pub WantsToo : Bytes → ℕ → ℕ → ℕ → List ℕ → List ℕ → Type 0
WantsToo o s t k w w' = (ends : List ℕ) (j left : ℕ) → get_or ends j 0 ≡ t → Wants o s ends j left w → Wants o s ends (j + 1) (left + k) w'

-- The time of each wanted node is its time from s.
abbrev pub WantedTimes : Bytes → ℕ → List ℕ → List ℕ → Type 0
WantedTimes o s wanted work = (v : ℕ) → v < node_count (node_body o) → 0 < at wanted v
    → times.time (node_count (node_body o)) work v ≡ coded (distance (network o) s v)

-- What is left for the end t: the wanted set tells whether t is local to s, and if it is, its time is there.
pub record NearTime (o : Bytes) (s t : ℕ) (work : List ℕ) : Type 0 where
  pub told : is_in (drop (region_at (node_count (node_body o)) want) work) t ≡ local_pair o s t
  pub time : local_pair o s t ≡ true → times.time (node_count (node_body o)) work t ≡ coded (distance (network o) s t)

abbrev pub NearTimes : Bytes → ℕ → List ℕ → List ℕ → Type 0
NearTimes o s ends work = (j : ℕ) → j < length ends → NearTime o s (get_or ends j 0) work
