-- Where there is a node to search from, there are two nodes: with one node there is no edge, and so no crossing node. Assumes nothing.
use Rattle.std.specs.Prelude.{ℕ, ◌≤◌, ◌≡◌, false}
use Rattle.std.proofs.Common.{arith}
use mathlib.Core.List.{List, Memᴰ}
use Rattle.model.specs.Bytes.{Bytes}
use Rattle.model.specs.Network.{some_edge_broken}
use Rattle.model.specs.Grid.{Cell}
use Rattle.model.specs.Access.{crossing_end, crosses, crossings}
use Rattle.theory.specs.Members.{map→, filter→}
use Rattle.theory.specs.Sound.{each_fine}
use Rattle.crossing.specs.Ground.{edges_in}
use Rattle.marks.specs.Due.{Flagged}
use Rattle.words.specs.Regions.{region_flags}

-- A node of region k is not the only node.
abbrev pub NotAlone : ℕ → ℕ → List ℕ → Type 0
NotAlone n k work = (v : ℕ) → Flagged (region_flags n k work) v → 2 ≤ n

-- The edge of a crossing node has two ends.
pub crossing_two : (n : ℕ) (edges : Bytes) → some_edge_broken n edges ≡ false → (cs : List Cell) (r : ℕ) (c : Cell) {x : ℕ}
    → Memᴰ x (crossings cs (edges_in edges) r c) → 2 ≤ n
unfolding crossings
crossing_two n edges ok cs r c m =
    let e = map→ crossing_end _ m in
    let f = each_fine n edges ok e.0 (filter→ (crosses cs r c) (edges_in edges) e.1).0 in
    omega (arith, f.first_in, f.second_in, f.apart)
