-- The bodies are the built ones just when the oracle is. Assumes nothing.
use Prim.Native.Nat.{ℕ, ◌≤◌}
use native.Mathlib.Omega.{arith}
use mathlib.Core.Path.{◌≡◌, refl, sym, ◌∙◌, ap}
use mathlib.Core.Bool.{true, not, ◌&&◌}
use mathlib.Core.List.{◌++◌, append_assoc}
use lib.ListN.{length}
use borrow.Author.Tests.{not-true}
use Rattle.model.specs.Lists.{equal, concat_map}
use Rattle.model.specs.Bytes.{Bytes, word16, bytes16}
use Rattle.model.specs.Contents.{node_body, edge_body, grid_body, transit_body, access_body, table_body}
use Rattle.model.specs.Network.{network, order, nodes, node_count, distance, max_nodes}
use Rattle.model.specs.Grid.{grid_over, division}
use Rattle.model.specs.Grid as model
use Rattle.model.specs.Access.{access_lists, transit_nodes}
use Rattle.model.specs.Oracle.{entry_bytes, list_bytes, access_bytes, table_bytes, transit_count}
use Rattle.model.specs.Rules.{well_shaped, differs_from_built, work_words}
use Rattle.theory.specs.Tests.{and, both, same_test}
use Rattle.theory.specs.ReadLaws.{length_list}
use Rattle.theory.specs.FileLaws.{word16_read}
use Rattle.theory.specs.Passed.{Shaped, all_shaped}
use Rattle.theory.specs.Sound.{count_nodes, node_bytes}
use Rattle.theory.specs.Audits.{equal_self, equal→, rule16}
use Rattle.theory.specs.AuditBodies.{built_transit, built_access, built_table, is_built, built_is, part_bytes}
use Rattle.theory.specs.Whole.{AreBytes}
use Rattle.grid.specs.Stored.{grid_of}
use Rattle.grid.specs.declared.Grid.{Grid}
use Rattle.crossing.specs.Ground.{Ground}
use Rattle.access.specs.Networks.{network_in}
use Rattle.passes.specs.Building.{access_of, transit_in, list_in}
use Rattle.passes.specs.Stands.{whole}
use Rattle.passes.specs.BuildingLaws.{access_few, access_body_law}
use Rattle.checks.specs.Grids.{oracle_grid}
use Rattle.checks.proofs.OracleGrid.{over_oracle}
use Rattle.auditor.specs.Same.{KeepsLists, same_list, same_lists, same_bodies}
use Rattle.auditor.proofs.AccessBytes.{Sized, same_whole}

-- A list's first number is that of its entries.
module _ (nodes edges : Bytes) (grid : Grid) (few : node_count nodes ≤ max_nodes) where
  sized : Sized (node_count nodes) (list_in nodes edges grid)
  unfolding list_in list_bytes bytes16
  sized v h l =
      let t = transit_in nodes edges grid in
      let d = distance (network_in nodes edges) in
      let a = access_of nodes edges grid v in
      let entries = concat_map (λ x. entry_bytes t x (d v x)) a in
      let first : word16 ((bytes16 (length a) ++ entries) ++ l) 0 ≡ length a = ap (λ (b : Bytes). word16 b 0) (append_assoc (bytes16 (length a)) entries l)
      ∙ word16_read (length a) (entries ++ l) (omega (arith, access_few nodes edges grid (node_count nodes) refl v)) in
      rw first (sym (length_list d t v a))

module _ (o : Bytes) (shaped : well_shaped o ≡ true) (small : AreBytes o) (grid : Grid)
    (made : grid_of grid ≡ grid_over (division (grid_body o)) (nodes (node_body o))) where
  abbrev n : ℕ
  n = node_count (node_body o)

  p : Shaped o
  p = all_shaped o shaped

  transit_is : transit_in (node_body o) (edge_body o) grid ≡ transit_nodes (order (network o))
      (access_lists (network o) (grid_over (division (grid_body o)) (network o).nodes))
  unfolding transit_in network
  transit_is = rw (count_nodes o) (ap (λ (m : model.Grid). transit_nodes n (access_lists (network_in (node_body o) (edge_body o)) m)) made)

  access_is : whole n (list_in (node_body o) (edge_body o) grid) ≡ built_access o shaped
  unfolding network
  access_is =
      sym (access_body_law (node_body o) (edge_body o) grid n refl) ∙
      (λ i. access_bytes (distance (network_in (node_body o) (edge_body o))) (transit_is i)
      (access_lists (network_in (node_body o) (edge_body o)) (made i)))

  table_is : table_bytes (distance (network_in (node_body o) (edge_body o))) (transit_in (node_body o) (edge_body o) grid) ≡ built_table o
      shaped
  unfolding network
  table_is = ap (table_bytes (distance (network_in (node_body o) (edge_body o)))) transit_is

  lists_tell : same_lists (node_body o) (edge_body o) grid (access_body o) ≡ equal (access_body o) (built_access o shaped)
  unfolding same_lists same_list
  lists_tell =
      same_whole n (transit_count (transit_body o)) (access_body o) (list_in (node_body o) (edge_body o) grid) p.access (part_bytes o small 5)
      (sized (node_body o) (edge_body o) grid (node_bytes o p.sound).0) ∙
      ap (equal (access_body o)) access_is

  bodies_tell : same_bodies (node_body o) (edge_body o) grid (transit_body o) (access_body o) (table_body o)
      ≡ equal (transit_body o) (built_transit o shaped) && (equal (access_body o) (built_access o shaped) && equal (table_body o) (built_table o shaped))
  unfolding same_bodies
  bodies_tell = λ i. equal (transit_body o) (concat_map bytes16 (transit_is i)) && (lists_tell i && equal (table_body o) (table_is i))

  is_built_tells : same_bodies (node_body o) (edge_body o) grid (transit_body o) (access_body o) (table_body o) ≡ not (differs_from_built o)
  is_built_tells = bodies_tell ∙ same_test there back
    where
      there : equal (transit_body o) (built_transit o shaped) && (equal (access_body o) (built_access o shaped) && equal (table_body o) (built_table o shaped)) ≡ true
          → not (differs_from_built o) ≡ true
      there h =
          let x = both {b = equal (transit_body o) (built_transit o shaped)} h in
          let y = both {b = equal (access_body o) (built_access o shaped)} x.1 in
          ap not ((rule16 o).1 (built_is o shaped small (equal→ _ _ x.0, equal→ _ _ y.0, equal→ _ _ y.1)))

      back : not (differs_from_built o) ≡ true → equal (transit_body o) (built_transit o shaped) &&
          (equal (access_body o) (built_access o shaped) && equal (table_body o) (built_table o shaped)) ≡ true
      back h =
          let (x, y, z) = is_built o shaped ((rule16 o).0 (not-true (differs_from_built o) h)) in
          rw (← x, ← y, ← z) (and (equal_self (transit_body o)) (and (equal_self (access_body o)) (equal_self (table_body o))))

-- ---- with the bodies as the code has them
module _ (o : Bytes) (shaped : well_shaped o ≡ true) (grid : Grid) (made : grid_of grid ≡ oracle_grid o) (nb eb : Bytes) (p : nb ≡ node_body o)
    (q : eb ≡ edge_body o) (ab : Bytes) (s : ab ≡ access_body o) where
  pub bodies_asked : (n room : ℕ) → n ≡ node_count (node_body o) → work_words n ≤ room → Ground nb eb grid × (n ≡ node_count nb) × (n ≤ max_nodes)
      × (work_words n ≤ room) × KeepsLists n ab × (1 ≤ n)
  bodies_asked n room e h =
      let k = all_shaped o shaped in (
        record { over = over_oracle o nb p grid made k; edges_rule = rw (p, q) k.sound.some_edge },
        rw p e,
        rw e (node_bytes o k.sound).0,
        h,
        (transit_count (transit_body o), rw (e, s) k.access),
        rw e (node_bytes o k.sound).1,
      )

  pub bodies_told : AreBytes o → (tb xb : Bytes) → tb ≡ transit_body o → xb ≡ table_body o → same_bodies nb eb grid tb ab xb ≡ not (differs_from_built o)
  unfolding oracle_grid
  bodies_told small tb xb t x = rw (p, q, s, t, x) (is_built_tells o shaped small grid made)
