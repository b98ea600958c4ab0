-- What building goes by: the words of a search and the sets in the regions give the bytes of lists and rows. Assumes nothing.
use Rattle.std.specs.Prelude.{ℕ, zero, suc, ◌+◌, ◌*◌, ◌≤◌, ◌<◌, ◌≡◌, refl, get_or}
use Rattle.std.proofs.Common.{zero-add, arith, sym, ◌∙◌}
use Rattle.std.proofs.Math.Path.{ap, subst}
use mathlib.Core.List.{List, [], ◌++◌, map, Memᴰ}
use Rattle.std.proofs.Math.ListN.{length, length-map}
use Rattle.model.specs.Lists.{any, concat, concat_map, member, range, up_to}
use Rattle.model.specs.Bytes.{Bytes}
use Rattle.model.specs.Network.{Network, node_count, arcs, distance}
use Rattle.model.specs.Grid.{Cell, cell_at}
use Rattle.model.specs.Access.{crossings, access_nodes, access_lists, transit_nodes}
use Rattle.model.specs.Oracle.{coded, value_bytes, list_bytes, access_bytes, table_bytes, start_size, starts}
use Rattle.theory.specs.RangeLaws.{length-range}
use Rattle.theory.specs.Tests.{both}
use Rattle.theory.specs.Members.{length-filter, filter→, →filter, →any, member→, →member, →up_to, range→, get_d_mem}
use Rattle.theory.specs.Built.{get_d_map_in}
use Rattle.algorithms.specs.Rounds.{distance_words}
use Rattle.bitset.specs.Bits.{is_in}
use Rattle.bitset.specs.Members.{members_of}
use Rattle.arcs.specs.Arcs.{arcs_in}
use Rattle.grid.specs.Stored.{grid_of}
use Rattle.grid.specs.declared.Grid.{Grid}
use Rattle.crossing.specs.Ground.{cells_in, edges_in, Ground}
use Rattle.access.specs.Networks.{network_in, count_order, count_cells}
use Rattle.access.specs.Pairs.{crossing_two}
use Rattle.words.specs.Regions.{region, own, transit}
use Rattle.emit.specs.Members.{Among}
use Rattle.emit.specs.Parts.{list_bytes_of, row_bytes}
use Rattle.emit.specs.PartLaws.{list_values, row_values}
use Rattle.passes.specs.Building.{access_of, transit_in, list_in, members_in}
use Rattle.passes.specs.Stands.{whole}

-- Lists made node by node.
map_range_same : {A : Type 0} (f g : ℕ → A) (s n : ℕ) → ((i : ℕ) → i < n → f (s + i) ≡ g (s + i)) → map f (range s n) ≡ map g (range s n)
unfolding range
map_range_same f g s zero h = refl
map_range_same {A} f g s (suc n) h =
    let z : s + 0 ≡ s = omega arith in
    let head : f s ≡ g s = rw z at (h 0 (omega arith)) in
    let shift : (i : ℕ) → suc s + i ≡ s + suc i = λ i. omega arith in
    rw (head, map_range_same f g (suc s) n (λ i l. rw (shift i) (h (suc i) (omega arith))))

map_up_to : {A : Type 0} (n : ℕ) (f g : ℕ → A) → ((i : ℕ) → i < n → f i ≡ g i) → map f (up_to n) ≡ map g (up_to n)
map_up_to n f g h = map_range_same f g 0 n (λ i l. rw zero-add (h i l))

-- Nodes of one cell have the same access nodes.
pub same_access : (b e : Bytes) (grid : Grid) (u v : ℕ) → cell_at (cells_in grid b) u ≡ cell_at (cells_in grid b) v
    → access_of b e grid u ≡ access_of b e grid v
unfolding access_of
same_access b e grid u v q = rw q

module _ (b e : Bytes) (grid : Grid) (n : ℕ) (size : n ≡ node_count b) where
  abbrev net : Network
  net = network_in b e

  abbrev cs : List Cell
  cs = cells_in grid b

  -- ---- the access nodes and the transit nodes

  -- An access node is a node.
  pub access_below : (u v : ℕ) → Memᴰ v (access_of b e grid u) → v < n
  unfolding access_of access_nodes
  access_below u v m = omega (arith, count_cells b n size grid, range→ 0 (length cs) v (filter→ _ (up_to (length cs)) m).0)

  -- And there is another.
  pub access_two : Ground b e grid → (u v : ℕ) → Memᴰ v (access_of b e grid u) → 2 ≤ n
  unfolding access_of access_nodes
  access_two on_ground u v m =
      let inner = crossings cs (edges_in e) (grid_of grid).inner (cell_at cs u) in
      let i = member→ v inner (both {b = member v inner} (filter→ _ (up_to (length cs)) m).1).0 in
      omega (arith, size, crossing_two (node_count b) e on_ground.edges_rule cs (grid_of grid).inner (cell_at cs u) i)

  pub access_few : (u : ℕ) → length (access_of b e grid u) ≤ n
  unfolding access_of access_nodes
  access_few u =
      let l : length (access_of b e grid u) ≤ length (up_to (length cs)) = length-filter _ (up_to (length cs)) in
      omega (arith, length-range 0 (length cs), count_cells b n size grid)

  pub transit_few : length (transit_in b e grid) ≤ n
  unfolding transit_in transit_nodes
  transit_few = omega (arith, size, length-filter (λ a. any (member a) (access_lists net (grid_of grid))) (up_to (node_count b)), length-range 0 (node_count b))

  pub transit_below : (v : ℕ) → Memᴰ v (transit_in b e grid) → v < n
  unfolding transit_in transit_nodes
  transit_below v m = omega (arith, size, range→ 0 (node_count b) v (filter→ _ (up_to (node_count b)) m).0)

  list_of_law : (u : ℕ) → u < n → get_or (access_lists net (grid_of grid)) u [] ≡ access_of b e grid u
  unfolding access_lists cell_at access_of
  list_of_law u h = get_d_map_in (access_nodes (distance net) (grid_of grid) cs net.edges) cs u (record { column = 0; row = 0 }) []
      (rw (count_cells b n size grid) h)

  pub count_lists : length (access_lists net (grid_of grid)) ≡ n
  unfolding access_lists
  count_lists = length-map cs (access_nodes (distance net) (grid_of grid) cs net.edges) ∙ count_cells b n size grid

  -- An access node is a transit node.
  pub in_transit : (u : ℕ) → u < n → (v : ℕ) → Memᴰ v (access_of b e grid u) → Memᴰ v (transit_in b e grid)
  unfolding transit_in transit_nodes
  in_transit u h v m =
      let ls = access_lists net (grid_of grid) in
      →filter (λ a. any (member a) ls) (up_to (node_count b)) (→up_to (node_count b) v (omega (arith, size, access_below u v m)))
      (→any (member v) ls (get_d_mem ls u [] (rw count_lists h)) (rw (list_of_law u h) (→member v (access_of b e grid u) m)))

  -- ---- the distances from u as words, with the sets in the regions

  pub distance_words_law : (u : ℕ) → distance_words (arcs_in e) n u ≡ map (λ v. coded (distance net u v)) (up_to n)
  unfolding distance_words distance arcs arcs_in
  distance_words_law u = rw (count_order b n size e)

  -- u has the access nodes of the cell of x.
  pub list_words : (w : List ℕ) (u x : ℕ) → members_in n transit w ≡ transit_in b e grid → access_of b e grid x ≡ access_of b e grid u
      → members_in n own w ≡ access_of b e grid x
      → list_bytes_of (distance_words (arcs_in e) n u) (members_in n transit w) (members_in n own w) ≡ list_in b e grid u
  unfolding list_in
  list_words w u x ts same os = rw (ts, os, same) (list_values (distance net) u n (distance_words (arcs_in e) n u) (transit_in b e grid)
      (access_of b e grid u) (distance_words_law u) (access_below u))

  -- ---- the sets in the regions

  -- Each access node stands among the transit nodes.
  pub among : (w : List ℕ) (u : ℕ) → u < n → members_in n transit w ≡ transit_in b e grid → members_in n own w ≡ access_of b e grid u
      → Among n (region n own w) (region n transit w)
  unfolding members_of
  among w u h ts os v l f =
      let m : Memᴰ v (access_of b e grid u) = subst (Memᴰ v) os (→filter (is_in (region n own w)) (up_to n) (→up_to n v l) f) in
      (filter→ (is_in (region n transit w)) (up_to n) (subst (Memᴰ v) (sym ts) (in_transit u h v m))).1

  -- ---- the bodies

  pub access_body_law : access_bytes (distance net) (transit_in b e grid) (access_lists net (grid_of grid)) ≡ whole n (list_in b e grid)
  unfolding access_bytes
  access_body_law =
      rw count_lists
      (ap (λ (ls : List Bytes). starts (start_size * n) ls ++ concat ls)
      (map_up_to n (λ u. list_bytes (distance net) (transit_in b e grid) u (get_or (access_lists net (grid_of grid)) u [])) (list_in b e grid)
      (λ u h. unfold list_in in ap (list_bytes (distance net) (transit_in b e grid) u) (list_of_law u h))))

  -- Rows of the times from each transit node, the columns being the transit nodes.
  pub table_words : (l : List ℕ) → l ≡ transit_in b e grid → concat_map (λ u. row_bytes (distance_words (arcs_in e) n u) l) l ≡ table_bytes (distance net)
      (transit_in b e grid)
  unfolding table_bytes
  table_words l q =
      let t = transit_in b e grid in
      let row : (u : ℕ) → row_bytes (distance_words (arcs_in e) n u) t ≡ concat_map (λ v. value_bytes (distance net u v)) t =
      λ u. row_values (distance net u) n (distance_words (arcs_in e) n u) (distance_words_law u) t transit_below in
      rw q (λ i. concat_map (λ u. row u i) t)
