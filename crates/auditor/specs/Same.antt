-- What the audit compares, over the bodies of an oracle and a grid over its nodes. Assumes nothing.
use Rattle.std.specs.Prelude.{ℕ, ◌≡◌, Bool, false, not, ◌&&◌, ◌||◌}
use Rattle.model.specs.Lists.{all, equal, up_to, concat_map}
use Rattle.model.specs.Bytes.{Bytes, bytes16, cut}
use Rattle.model.specs.Network.{node_count, distance}
use Rattle.model.specs.Oracle.{list_part, access_broken, table_bytes}
use Rattle.grid.specs.declared.Grid.{Grid}
use Rattle.crossing.specs.Ground.{cells_in}
use Rattle.crossing.specs.Cells.{same_cell, first_of_cell}
use Rattle.access.specs.Networks.{network_in}
use Rattle.passes.specs.Building.{transit_in, list_in}

-- The access body keeps rule 10 for n nodes and some number of transit nodes.
abbrev pub KeepsLists : ℕ → Bytes → Type 0
KeepsLists n access = (T : ℕ) × (access_broken n T access ≡ false)

-- The list of v in the access body is the built one.
unfoldable pub same_list : Bytes → Bytes → Grid → Bytes → ℕ → Bool
same_list nodes edges grid access v = equal (cut (list_part access v) access) (list_in nodes edges grid v)

-- It is, where v has the cell of u.
unfoldable pub same_beside : Bytes → Bytes → Grid → Bytes → ℕ → ℕ → Bool
same_beside nodes edges grid access u v = not (same_cell (cells_in grid nodes) u v) || same_list nodes edges grid access v

-- All lists of the cell of u are, where u is its first node.
unfoldable pub same_of_cell : Bytes → Bytes → Grid → Bytes → ℕ → Bool
same_of_cell nodes edges grid access u = not (first_of_cell (cells_in grid nodes) u) || all (same_beside nodes edges grid access u)
    (up_to (node_count nodes))

-- All lists are.
unfoldable pub same_lists : Bytes → Bytes → Grid → Bytes → Bool
same_lists nodes edges grid access = all (same_list nodes edges grid access) (up_to (node_count nodes))

-- The last three bodies are those that building writes, the access body list by list.
unfoldable pub same_bodies : Bytes → Bytes → Grid → Bytes → Bytes → Bytes → Bool
same_bodies nodes edges grid transit access table =
    equal transit (concat_map bytes16 (transit_in nodes edges grid)) &&
    (same_lists nodes edges grid access && equal table (table_bytes (distance (network_in nodes edges)) (transit_in nodes edges grid)))
