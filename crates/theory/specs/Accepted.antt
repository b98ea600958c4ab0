-- A network that keeps rules 3 to 8, in a network file or in an oracle, is good: what the theorems about built oracles ask for. Assumes nothing.
use Rattle.std.specs.Prelude.{ℕ, ◌+◌, ◌*◌, ◌≤◌, ◌<◌, ◌≡◌, refl, false, get_or, ltb}
use native.Mathlib.Omega.{arith}
use Rattle.std.proofs.Common.{mul-le-mul, mul-suc, ◌∙◌}
use mathlib.Core.List.{List, [], ◌∷◌, ◌++◌, map, Memᴰ}
use Rattle.std.proofs.Math.ListN.{length, length-map, length-append}
use borrow.Author.Tests.{ltb-false}
use Rattle.model.specs.Lists.{up_to, concat, concat_map}
use Rattle.model.specs.Bytes.{Bytes, word16, bytes16, number_size}
use Rattle.model.specs.Contents.{node_body, edge_body, closed_body, oracle_edition, entry_at}
use Rattle.model.specs.Network.{network, order, distance, node_size, edge_size, max_nodes, max_edges}
use Rattle.model.specs.Grid.{grid_over, grid_broken, max_grid, division, division_bytes, division_size}
use Rattle.model.specs.Oracle.{oracle, oracle_over, table_bytes, list_bytes, access_bytes, starts, value_size, start_size, list_size}
use Rattle.model.specs.declared.Division.{Division}
use Rattle.theory.specs.RangeLaws.{length-range}
use Rattle.theory.specs.ReadLaws.{length_numbers, length_table, length_list, length_starts}
use Rattle.theory.specs.FileLaws.{length_file}
use Rattle.theory.specs.Members.{map→, range→}
use Rattle.theory.specs.Built.{Good, grid_of, transit_of, lists_of, count_lists, list_of_law, few_transit, few_access}
use Rattle.theory.specs.Passed.{or-false, Sound, Passed}
use Rattle.theory.specs.Sound.{ends, few, near, node_bytes, edge_bytes, closed_bytes}

-- ---- lengths
concat_most : (c : ℕ) (ls : List Bytes) → ((l : Bytes) → Memᴰ l ls → length l ≤ c) → length (concat ls) ≤ c * length ls
unfolding concat
concat_most c [] h = omega arith
concat_most c (l ∷ ls) h = omega (
  arith,
  length-append l (concat ls),
  mul-suc c (length ls),
  h l (Memᴰ.head refl),
  concat_most c ls
      (λ x m. h x (Memᴰ.tail m)),
)

-- The most that each body of a built oracle has, and all of them.
abbrev most_access : ℕ
most_access = start_size * max_nodes + list_size max_nodes * max_nodes

abbrev most_table : ℕ
most_table = value_size * max_nodes * max_nodes

abbrev most_bytes : ℕ
most_bytes = node_size * max_nodes + edge_size * max_edges + number_size * max_edges + division_size + number_size * max_nodes + most_access + most_table

seven_most : (a b c d e f g : Bytes) → length a ≤ node_size * max_nodes → length b ≤ edge_size * max_edges → length c ≤ number_size * max_edges
    → length d ≤ division_size
    → length e ≤ number_size * max_nodes → length f ≤ most_access → length g ≤ most_table → length (concat (a ∷ b ∷ c ∷ d ∷ e ∷ f ∷ g ∷ [])) ≤ most_bytes
unfolding concat
seven_most a b c d e f g ha hb hc hd he hf hg =
    omega (
      arith,
      length-append a (b ++ (c ++ (d ++ (e ++ (f ++ (g ++ [])))))),
      length-append b (c ++ (d ++ (e ++ (f ++ (g ++ []))))),
      length-append c
          (d ++ (e ++ (f ++ (g ++ [])))),
      length-append d (e ++ (f ++ (g ++ []))),
      length-append e (f ++ (g ++ [])),
      length-append f (g ++ []),
      length-append g
          [],
    )

module _ (f : Bytes) (dv : Division) (sound : Sound f) (keeps : grid_broken dv.g ≡ false) where
  fits : dv.g ≤ max_grid
  unfolding grid_broken
  fits = ltb-false max_grid dv.g (or-false (ltb dv.g 1) (ltb max_grid dv.g) keeps).1

  above : 0 < dv.g
  unfolding grid_broken
  above = ltb-false dv.g 1 (or-false (ltb dv.g 1) (ltb max_grid dv.g) keeps).0

  -- ---- the oracle's size
  transit_bytes : length (concat_map bytes16 (transit_of f dv)) ≤ number_size * max_nodes
  transit_bytes = omega (arith, length_numbers (transit_of f dv), few_transit f dv, few f sound)

  table_size : length (table_bytes (distance (network f)) (transit_of f dv)) ≤ most_table
  table_size =
      let t = transit_of f dv in
      let b : length t ≤ max_nodes = omega (arith, few_transit f dv, few f sound) in
      let a : value_size * length t ≤ value_size * max_nodes = omega arith in
      let most : value_size * length t * length t ≤ value_size * max_nodes * max_nodes = mul-le-mul a b in
      omega (arith, most, length_table (distance (network f)) t)

  -- each access list
  list_most : (u : ℕ) (l : List ℕ) → length l ≤ max_nodes → length (list_bytes (distance (network f)) (transit_of f dv) u l) ≤ list_size max_nodes
  list_most u l h = omega (arith, length_list (distance (network f)) (transit_of f dv) u l)

  access_size : length (access_bytes (distance (network f)) (transit_of f dv) (lists_of f dv)) ≤ most_access
  unfolding access_bytes
  access_size =
      let ls : List Bytes = map (λ u. list_bytes (distance (network f)) (transit_of f dv) u (get_or (lists_of f dv) u [])) (up_to (length (lists_of f dv))) in
      let count : length ls ≡ length (lists_of f dv) = length-map (up_to (length (lists_of f dv))) _ ∙ length-range 0 (length (lists_of f dv)) in
      let most = concat_most (list_size max_nodes) ls (λ l m. each (map→ _ (up_to (length (lists_of f dv))) m)) in
      omega (
        arith,
        length-append (starts (start_size * length (lists_of f dv)) ls) (concat ls),
        length_starts (start_size * length (lists_of f dv)) ls,
        few f
            sound,
        count_lists f dv,
      )
    where
      each : {l : Bytes} → (u : ℕ) × Memᴰ u (up_to (length (lists_of f dv)))
          × (l ≡ list_bytes (distance (network f)) (transit_of f dv) u (get_or (lists_of f dv) u [])) → length l ≤ list_size max_nodes
      each r =
          let h : r.0 < order (network f) = omega (arith, range→ 0 (length (lists_of f dv)) r.0 r.1, count_lists f dv) in
          rw r.2 (list_most r.0 (get_or (lists_of f dv) r.0 []) (rw (list_of_law f dv r.0 h) (omega (arith, few_access f dv r.0, few f sound))))

  -- With any bodies 2 and 3 of no more bytes than they may have.
  pub over_size : (b2 b3 : Bytes) → length b2 ≤ edge_size * max_edges → length b3 ≤ number_size * max_edges
      → length (oracle_over (network f) (node_body f) b2 b3 dv) < 4294967296
  unfolding oracle_over entry_at division_bytes bytes16
  over_size b2 b3 h2 h3 =
      let net = network f in
      let d = distance net in
      let t = transit_of f dv in
      let access = access_bytes d t (lists_of f dv) in
      let table = table_bytes d t in
      let whole = length_file oracle_edition (node_body f ∷ b2 ∷ b3 ∷ division_bytes dv ∷ concat_map bytes16 t ∷ access ∷ table ∷ []) in
      let seven : length (concat (node_body f ∷ b2 ∷ b3 ∷ division_bytes dv ∷ concat_map bytes16 t ∷ access ∷ table ∷ [])) ≤ most_bytes =
      seven_most (node_body f) b2 b3 (division_bytes dv) (concat_map bytes16 t) access table (node_bytes f sound).2 h2 h3 (omega arith) transit_bytes
      access_size table_size in
      omega arith

  oracle_size : length (oracle f dv) < 4294967296
  unfolding oracle
  oracle_size = over_size (edge_body f) (closed_body f) (edge_bytes f sound).1 (closed_bytes f sound)

  reads : division (division_bytes dv) ≡ dv
  unfolding division division_bytes word16 bytes16
  reads = let e : word16 (bytes16 dv.g) 0 ≡ dv.g = omega (arith, fits) in λ i. record { g = e i }

  -- all that is asked of the radii: 2 × 2 ≤ 4
  wide : 2 * (grid_of f dv).inner ≤ (grid_of f dv).outer
  unfolding grid_over
  wide = omega arith

  pub good_of : Good f dv
  good_of = record { ends = ends f sound; near = near f sound; few = few f sound; reads = reads; wide = wide; small = oracle_size }

-- The same, of an accepted network.
module _ (f : Bytes) (dv : Division) (ok : Passed f dv) where
  pub g_above : 0 < dv.g
  g_above = above f dv ok.sound ok.grid

  pub good : Good f dv
  good = good_of f dv ok.sound ok.grid
