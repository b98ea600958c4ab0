-- The access nodes of the nodes' cells are the transit nodes. Assumes nothing.
use Prim.Native.Nat.{ℕ}
use native.Mathlib.Omega.{arith}
use mathlib.Core.Path.{◌≡◌, sym, ◌∙◌}
use mathlib.Core.Bool.{Bool}
use mathlib.Core.List.{List, Memᴰ, map}
use lib.ListN.{length}
use Rattle.model.specs.Lists.{any, filter, member, up_to}
use Rattle.model.specs.Bytes.{Bytes}
use Rattle.model.specs.Network.{node_count, distance}
use Rattle.model.specs.Grid.{Cell, cell_at}
use Rattle.model.specs.Access.{access_nodes, access_lists, transit_nodes}
use Rattle.theory.specs.Members.{filter→, →filter, any→, map→, range→, →up_to, member→}
use Rattle.theory.specs.Tests.{same_test}
use Rattle.bitset.specs.Bits.{is_in}
use Rattle.bitset.specs.Members.{members_of}
use Rattle.grid.specs.Stored.{grid_of}
use Rattle.grid.specs.declared.Grid.{Grid}
use Rattle.crossing.specs.Cells.{first_of_cell}
use Rattle.crossing.specs.Ground.{cells_in, edges_in, Ground}
use Rattle.crossing.specs.FirstNodes.{firsts, transit_firsts}
use Rattle.emit.specs.MemberLaws.{members_passing}
use Rattle.access.specs.Networks.{network_in, count_cells}
use Rattle.access.specs.Pairs.{NotAlone}
use Rattle.words.specs.Regions.{region}
use Rattle.passes.specs.Building.{access_of, transit_in, members_in}
use Rattle.passes.specs.BuildingLaws.{access_two}
use Rattle.passes.specs.Passed.{Needed}
use Rattle.passes.proofs.Listing.{flagged_member}

module _ (b e : Bytes) (grid : Grid) where
  abbrev cs : List Cell
  cs = cells_in grid b

  abbrev of : Cell → List ℕ
  of = access_nodes (distance (network_in b e)) (grid_of grid) cs (edges_in e)

  abbrev at : ℕ → List ℕ
  at u = of (cell_at cs u)

  -- Region k has the transit nodes.
  pub members_transit : (n : ℕ) → n ≡ node_count b → (k : ℕ) (w : List ℕ)
      → ((a : ℕ) → Memᴰ a (members_in n k w) → Memᴰ a (transit_in b e grid))
      → ((a : ℕ) → Memᴰ a (transit_in b e grid) → Memᴰ a (members_in n k w))
      → members_in n k w ≡ transit_in b e grid
  unfolding transit_in transit_nodes members_of
  members_transit n size k w i j =
      let s = region n k w in
      let t : ℕ → Bool = λ a. any (member a) (access_lists (network_in b e) (grid_of grid)) in
      let r : transit_in b e grid ≡ filter t (up_to n) = rw size in
      members_passing n s t (λ a h. same_test
      (λ f. (filter→ t (up_to n) (rw r at (i a (→filter (is_in s) (up_to n) (→up_to n a h) f)))).1)
      (λ f. (filter→ (is_in s) (up_to n) (j a (rw r (→filter t (up_to n) (→up_to n a h) f)))).1))
      ∙ sym r

  module _ (n : ℕ) (size : n ≡ node_count b) where
    pub transit_needed : (a : ℕ) → Memᴰ a (transit_in b e grid) → Needed b e grid n a
    unfolding access_of transit_in access_lists transit_nodes
    transit_needed a m =
        let t = (filter→ (λ a. any (member a) (map at (firsts cs of))) (up_to (node_count b)) (rw (transit_firsts cs of (node_count b)) at m)).1 in
        let (l, i, f) = any→ (member a) (map at (firsts cs of)) t in
        let (x, j, q) = map→ at (firsts cs of) i in
        let k = range→ 0 (length cs) x (filter→ (first_of_cell cs) (up_to (length cs)) j).0 in
        record { by = x; below = omega (arith, count_cells b n size grid); listed = member→ a (at x) (rw q at f) }

    -- The transit nodes are not alone.
    pub transit_alone : Ground b e grid → (k : ℕ) (w : List ℕ) → members_in n k w ≡ transit_in b e grid → NotAlone n k w
    transit_alone on_ground k w q v f =
        let d = transit_needed v (rw q at ((flagged_member n k w v).0 f)) in
        access_two b e grid n size on_ground d.by v d.listed
