-- The lists of one cell, from the words of a search and the sets in the regions. Assumes nothing.
use Prim.Native.Nat.{ℕ, ◌<◌}
use mathlib.Core.Path.{◌≡◌, ap}
use mathlib.Core.Bool.{true, false}
use mathlib.Core.List.{List}
use Rattle.model.specs.Lists.{all, equal, up_to}
use Rattle.model.specs.Bytes.{Bytes, cut}
use Rattle.model.specs.Network.{node_count, distance}
use Rattle.model.specs.Grid.{Cell}
use Rattle.model.specs.Oracle.{list_part}
use Rattle.algorithms.specs.Rounds.{distance_words}
use Rattle.arcs.specs.Arcs.{arcs_in}
use Rattle.tables.specs.Premises.{ListedBelow}
use Rattle.grid.specs.declared.Grid.{Grid}
use Rattle.crossing.specs.Ground.{cells_in}
use Rattle.crossing.specs.Cells.{same_cell, first_of_cell, same_cell_law}
use Rattle.access.specs.Networks.{network_in}
use Rattle.words.specs.Regions.{region_at, own, transit}
use Rattle.emit.specs.Parts.{list_bytes_of}
use Rattle.emit.specs.PartLaws.{list_values}
use Rattle.passes.specs.Building.{access_of, transit_in, list_in, members_in}
use Rattle.passes.specs.BuildingLaws.{distance_words_law, access_below, same_access}
use Rattle.words.specs.Frames.{KeptFrom}
use Rattle.auditor.specs.Same.{KeepsLists, same_list, same_beside, same_of_cell}

pub listed : (n : ℕ) (access : Bytes) → KeepsLists n access → (v : ℕ) → v < n → ListedBelow access v
listed n access k v h = (k.0, record { nodes = n; below = h; kept = k.1 })

-- Region TRANSIT stays where the words from it on do.
pub transit_kept : (n : ℕ) (w w' : List ℕ) → KeptFrom (region_at n transit) w w' → members_in n transit w' ≡ members_in n transit w
transit_kept n w w' e = rw e

module _ (nodes edges : Bytes) (grid : Grid) (access : Bytes) (u : ℕ) where
  abbrev cs : List Cell
  cs = cells_in grid nodes

  pub other_cell : (v : ℕ) → same_cell cs u v ≡ false → true ≡ same_beside nodes edges grid access u v
  unfolding same_beside
  other_cell v e = rw e

  pub later_node : first_of_cell cs u ≡ false → true ≡ same_of_cell nodes edges grid access u
  unfolding same_of_cell
  later_node e = rw e

  module _ (n : ℕ) (size : n ≡ node_count nodes) where
    pub first_node : first_of_cell cs u ≡ true → all (same_beside nodes edges grid access u) (up_to n) ≡ same_of_cell nodes edges grid access u
    unfolding same_of_cell
    first_node e = rw (e, size)

    -- The list of v, of the cell of u.
    pub this_cell : (w : List ℕ) → members_in n transit w ≡ transit_in nodes edges grid → members_in n own w ≡ access_of nodes edges grid u → (v : ℕ)
        → same_cell cs u v ≡ true
        → equal (cut (list_part access v) access) (list_bytes_of (distance_words (arcs_in edges) n v) (members_in n transit w) (members_in n own w)) ≡
        same_beside nodes edges grid access u v
    unfolding same_beside same_list list_in
    this_cell w ts os v e =
        rw (e, ts, os, same_access nodes edges grid u v ((same_cell_law cs u v).0 e))
        (ap (equal (cut (list_part access v) access))
        (list_values (distance (network_in nodes edges)) v n _ _ _ (distance_words_law nodes edges grid n size v)
        (access_below nodes edges grid n size v)))
