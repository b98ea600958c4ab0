-- The members of a region as a list, by its flags. Assumes nothing.
use Prim.Native.Nat.{ℕ, ◌<◌, ◌≤◌}
use native.Mathlib.Omega.{arith}
use mathlib.Core.Path.{◌≡◌, sym, ◌∙◌, ap}
use mathlib.Core.Bool.{Bool}
use mathlib.Core.Logic.{◌↔◌}
use mathlib.Core.List.{List, Memᴰ}
use lib.ListN.{length, drop}
use Rattle.model.specs.Lists.{filter, up_to}
use Rattle.model.specs.Bytes.{Bytes}
use Rattle.model.specs.Network.{node, node_count, distance}
use Rattle.model.specs.Grid as model
use Rattle.model.specs.Access.{access_nodes}
use Rattle.theory.specs.Tests.{same_test}
use Rattle.theory.specs.Members.{filter→, →filter, range→, →up_to}
use Rattle.bitset.specs.Bits.{is_in}
use Rattle.bitset.specs.Members.{members_of}
use Rattle.bitset.proofs.Ranks.{members_most}
use Rattle.marks.specs.Due.{Flagged}
use Rattle.grid.specs.Stored.{grid_of}
use Rattle.grid.specs.declared.Grid.{Grid}
use Rattle.grid.proofs.Cells.{cell_at_law}
use Rattle.crossing.specs.Sets.{test_flags, member_flags, ones}
use Rattle.crossing.specs.SetLaws.{flags_test, test_flag, ones_members, filter_flags}
use Rattle.crossing.specs.Ground.{cells_in, edges_in, Ground}
use Rattle.emit.specs.MemberLaws.{members_passing}
use Rattle.access.specs.Networks.{network_in, count_cells}
use Rattle.access.specs.Pairs.{NotAlone}
use Rattle.words.specs.Regions.{region_at, region, region_flags}
use Rattle.words.proofs.Windows.{in_front, flags_front}
use Rattle.access.proofs.Flagging as flagging
use Rattle.passes.specs.Building.{access_of, members_in}
use Rattle.passes.specs.BuildingLaws.{access_two}

-- Tests with the same flags agree below n.
tests_agree : (p q : ℕ → Bool) (n : ℕ) → test_flags p n ≡ test_flags q n → (v : ℕ) → v < n → p v ≡ q v
tests_agree p q n e v h = same_test
    (λ t. ((test_flag q n v).0 (rw e at ((test_flag p n v).1 (h, t)))).1)
    (λ t. ((test_flag p n v).0 (rw (← e) at ((test_flag q n v).1 (h, t)))).1)

module _ (n k : ℕ) (w : List ℕ) where
  -- How many members a region has, as `count` tells it.
  pub count_members : ones (region_flags n k w) ≡ length (members_in n k w)
  count_members = ap ones (sym (flags_front n (drop (region_at n k) w))) ∙ ones_members n (region n k w)

  pub members_few : length (members_in n k w) ≤ n
  members_few = members_most (region n k w) n

  pub flagged_member : (v : ℕ) → Flagged (region_flags n k w) v ↔ Memᴰ v (members_in n k w)
  unfolding members_of
  flagged_member v = (
    λ f. let (h, e) = flagging.member→ n (drop (region_at n k) w) v f in →filter (is_in (region n k w)) (up_to n) (→up_to n v h)
        (in_front n (drop (region_at n k) w) v h ∙ e),
    λ m.
        let (i, e) = filter→ (is_in (region n k w)) (up_to n) m in
        let h : v < n = omega (arith, range→ 0 n v i) in
        flagging.→member n (drop (region_at n k) w) v h (sym (in_front n (drop (region_at n k) w) v h) ∙ e),
  )

  -- The flags of those that pass a test.
  pub members_listed : (p : ℕ → Bool) → region_flags n k w ≡ member_flags n (filter p (up_to n)) → members_in n k w ≡ filter p (up_to n)
  members_listed p e = members_passing n (region n k w) p (λ v h. in_front n (drop (region_at n k) w) v h
      ∙ tests_agree (is_in (drop (region_at n k) w)) p n (sym (flags_test n (drop (region_at n k) w)) ∙ (e ∙ filter_flags n p)) v h)

-- Region k has the access nodes of the cell of u.
pub access_listed : (b e : Bytes) (grid : Grid) (n : ℕ) → n ≡ node_count b → (u : ℕ) → u < n → (k : ℕ) (w : List ℕ) (cell : model.Cell)
    → cell ≡ model.cell_of (grid_of grid) (node b u) → region_flags n k w ≡ member_flags n
    (access_nodes (distance (network_in b e)) (grid_of grid) (cells_in grid b) (edges_in e) cell)
    → members_in n k w ≡ access_of b e grid u
unfolding access_of access_nodes
access_listed b e grid n size u h k w cell q f =
    let l = count_cells b n size grid in
    rw (cell_at_law (grid_of grid) b u (rw (← size) h), ← q, l) (members_listed n k w _ (rw l at f))

-- These are not alone.
pub access_alone : (b e : Bytes) (grid : Grid) (n : ℕ) → n ≡ node_count b → Ground b e grid → (u k : ℕ) (w : List ℕ)
    → members_in n k w ≡ access_of b e grid u → NotAlone n k w
access_alone b e grid n size on_ground u k w q v f = access_two b e grid n size on_ground u v (rw q at ((flagged_member n k w v).0 f))
