-- Every oracle built from an accepted network is well-shaped. Assumes nothing.
use Rattle.std.specs.Prelude.{ℕ, ◌+◌, ◌*◌, ◌%◌, ◌<◌, ◌≡◌}
use native.Mathlib.Omega.{arith}
use Rattle.std.proofs.Math.Nat.{zero-add}
use Rattle.std.proofs.Common.{mul_assoc, sym, ◌∙◌}
use Rattle.std.proofs.Math.Path.{refl, ap, subst}
use Rattle.std.proofs.Math.Bool.{true, false}
use mathlib.Core.List.{List, [], ◌∷◌, ◌++◌, map, append_assoc, append-nil, Memᴰ}
use Rattle.std.proofs.Math.ListN.{length, get_or, length-append}
use Rattle.std.proofs.Math.Dec.{leb}
use borrow.Author.Tests.{lt-leb, eq-eqb}
use Rattle.model.specs.Lists.{gapless, rising, up_to, index_of, concat, concat_map}
use Rattle.model.specs.Bytes.{Bytes, word16, bytes16, number_size, words16}
use Rattle.model.specs.Contents.{contents_broken, bodies_broken, oracle_edition, oracle_entries, node_body, edge_body, closed_body, grid_body, transit_body}
use Rattle.model.specs.Contents.{access_body, table_body}
use Rattle.model.specs.Distance.{Distance, unreachable, finite}
use Rattle.theory.specs.Exact.{dist_bound}
use Rattle.model.specs.Network.{network, order, arcs, distance, node_count, edge_count, nodes_broken, coordinates_broken, edges_broken, some_edge_broken}
use Rattle.model.specs.Network.{numbers_broken, closed_listed}
use Rattle.model.specs.Grid.{division_bytes}
use Rattle.model.specs.Access.{access_nodes, transit_nodes}
use Rattle.model.specs.Oracle.{indexes, cell_broken, oracle, value, value_broken, value_bytes, value_size, start_size, access_bytes, table_bytes, transit_count}
use Rattle.model.specs.Oracle.{list_count, list_part, access_at, access_entry, access_list, grid_body_broken, entry_broken, list_broken, access_broken, table_broken}
use Rattle.model.specs.Oracle.{table_entry}
use Rattle.model.specs.Rules.{first_broken, shape_rules, accepted, well_shaped}
use Rattle.model.specs.declared.Division.{Division}
use Rattle.theory.specs.Members.{range→, filter→, map→, concat_map→, get_d_mem, index_of_law}
use Rattle.theory.specs.FarModel.{inside}
use Rattle.theory.specs.Built.{Good, bodies_of, transit_of, lists_of, cells_of, access_of, count_lists, list_of_law, few_transit, few_access, in_transit}
use Rattle.theory.specs.Built.{count_transit}
use Rattle.theory.specs.Passed.{Passed, all_passed, shaped_all}
use Rattle.theory.specs.Sound.{max_cost, ends, costs, few, count_nodes}
use Rattle.theory.specs.PairModel.{hops_few}
use Rattle.theory.specs.Accepted.{good}
use Rattle.theory.specs.Shape.{gapless_parts, Bounded, value_fine, rising_range, rising_filter, rising_index, any_none, contents_fine, bodies_fine}
use Rattle.theory.specs.ReadLaws as read
use Rattle.theory.specs.Numbers.{words_read}

-- ---- lists
abbrev pair : ℕ → ℕ → ℕ × ℕ
pair a c = (a, c)

map-map : {A B C : Type 0} (f : B → C) (g : A → B) (l : List A) → map f (map g l) ≡ map (λ x. f (g x)) l
map-map f g [] = refl
map-map f g (x ∷ l) = ap (λ r. f (g x) ∷ r) (map-map f g l)

concat_map_append : {A B : Type 0} (f : A → List B) (xs ys : List A) → concat_map f (xs ++ ys) ≡ concat_map f xs ++ concat_map f ys
unfolding concat_map
concat_map_append f [] ys = refl
concat_map_append f (x ∷ xs) ys = rw (concat_map_append f xs ys, append_assoc (f x) (concat_map f xs) (concat_map f ys))

concat_map_map : {A B C : Type 0} (f : B → List C) (h : A → B) (l : List A) → concat_map f (map h l) ≡ concat_map (λ x. f (h x)) l
unfolding concat_map
concat_map_map f h [] = refl
concat_map_map f h (x ∷ l) = ap (λ r. f (h x) ++ r) (concat_map_map f h l)

-- a table in rows is a list of its squares
flat : {C : Type 0} (f : ℕ → ℕ → List C) (t l : List ℕ) → concat_map (λ a. concat_map (f a) t) l ≡ concat_map (λ p. f p.0 p.1)
    (concat_map (λ a. map (pair a) t) l)
unfolding concat_map
flat f t [] = refl
flat f t (a ∷ l) = rw (
  concat_map_append (λ p. f p.0 p.1) (map (pair a) t) (concat_map (λ a. map (pair a) t) l),
  concat_map_map (λ p. f p.0 p.1)
      (pair a) t,
  flat f t l,
)

module _ (f : Bytes) (dv : Division) (ok : Passed f dv) where
  abbrev o : Bytes
  o = oracle f dv

  abbrev fine : Good f dv
  fine = good f dv ok

  abbrev N : ℕ
  N = order (network f)

  abbrev d : ℕ → ℕ → Distance
  d = distance (network f)

  abbrev t : List ℕ
  t = transit_of f dv

  bounded : (u v : ℕ) → u < N → Bounded (d u v)
  unfolding distance
  bounded u v h = step (d u v) refl
    where
      step : (x : Distance) → d u v ≡ x → Bounded x
      step unreachable e = tt
      step (finite k) e =
          let most = dist_bound (arcs (network f)) N u v (inside (network f) (ends f ok.sound)) h max_cost k (costs f ok.sound) e in
          (omega (arith, few f ok.sound, most), omega (arith, few f ok.sound, hops_few (network f) (ends f ok.sound) (few f ok.sound) h v k e))

  same_count : node_count (node_body o) ≡ N
  same_count = ap node_count (bodies_of f dv fine 0 (omega arith)) ∙ sym (count_nodes f)

  rule1 : contents_broken oracle_edition oracle_entries o ≡ false
  unfolding oracle
  rule1 = contents_fine oracle_edition _ (unfold oracle in fine.small)

  rule2 : bodies_broken oracle_entries o ≡ false
  unfolding oracle
  rule2 = bodies_fine oracle_edition _ (unfold oracle in fine.small)

  rule3 : nodes_broken (node_body o) ≡ false
  rule3 = ap nodes_broken (bodies_of f dv fine 0 (omega arith)) ∙ ok.sound.nodes_rule

  rule4 : coordinates_broken (node_body o) ≡ false
  rule4 = ap coordinates_broken (bodies_of f dv fine 0 (omega arith)) ∙ ok.sound.coordinates

  rule5 : edges_broken (edge_body o) ≡ false
  rule5 = ap edges_broken (bodies_of f dv fine 1 (omega arith)) ∙ ok.sound.edges_rule

  rule6 : some_edge_broken (node_count (node_body o)) (edge_body o) ≡ false
  rule6 = rw (bodies_of f dv fine 0 (omega arith), bodies_of f dv fine 1 (omega arith)) ok.sound.some_edge

  rule7 : numbers_broken (edge_count (edge_body o)) (closed_body o) ≡ false
  rule7 = rw (bodies_of f dv fine 1 (omega arith), bodies_of f dv fine 2 (omega arith)) ok.sound.closed

  rule21 : closed_listed (closed_body o) ≡ false
  rule21 = ap closed_listed (bodies_of f dv fine 2 (omega arith)) ∙ ok.plain

  rule8 : grid_body_broken (grid_body o) ≡ false
  unfolding grid_body_broken
  rule8 = rw (bodies_of f dv fine 3 (omega arith), fine.reads) (unfold division_bytes bytes16 in ok.grid)

  -- transit nodes rise and are nodes
  transit_rises : rising t ≡ true
  unfolding transit_nodes
  transit_rises = rising_filter _ (up_to N) (rising_range 0 N)

  transit_node : {a : ℕ} → Memᴰ a t → a < N
  unfolding transit_nodes
  transit_node {a} m = omega (arith, range→ 0 N a (filter→ _ (up_to N) m).0)

  rule9 : numbers_broken (node_count (node_body o)) (transit_body o) ≡ false
  unfolding numbers_broken
  rule9 =
      let ws : words16 (concat_map bytes16 t) ≡ t = words_read t (λ i q. omega (arith, transit_node (get_d_mem t i 0 q), fine.few)) in
      let even : length (concat_map bytes16 t) % number_size ≡ 0 = omega (arith, read.length_numbers t) in
      rw (same_count, bodies_of f dv fine 4 (omega arith), ws, eq-eqb (length (concat_map bytes16 t) % number_size) 0 even, transit_rises)
      (any_none (leb N) t (λ a m. lt-leb N a (transit_node m)))

  -- ---- rule 10
  abbrev b : Bytes
  b = access_bytes d t (lists_of f dv)

  abbrev pieces : List Bytes
  pieces = read.ls d t (lists_of f dv)

  small_list : (u : ℕ) → u < N → length (get_or (lists_of f dv) u []) < 65536
  small_list u h = rw (list_of_law f dv u h) (omega (arith, few_access f dv u, fine.few))

  in_lists : (u : ℕ) → u < N → u < length (lists_of f dv)
  in_lists u h = rw (count_lists f dv) h

  listed : (u : ℕ) → u < N → (i : ℕ) → i < length (get_or (lists_of f dv) u []) → Memᴰ (get_or (get_or (lists_of f dv) u []) i 0) t
  listed u h i q = in_transit f dv fine u h (subst (λ (l : List ℕ). Memᴰ (get_or (get_or (lists_of f dv) u []) i 0) l) (list_of_law f dv u h)
      (get_d_mem (get_or (lists_of f dv) u []) i 0 q))

  layout : gapless (start_size * N) (map (list_part b) (up_to N)) (length b) ≡ true
  layout =
      let count : length pieces ≡ N = read.count_lists d t (lists_of f dv) ∙ count_lists f dv in
      let end : length b ≡ start_size * length (lists_of f dv) + length (concat pieces) = unfold access_bytes in omega (
        arith,
        length-append (Rattle.model.specs.Oracle.starts (start_size * length (lists_of f dv)) pieces) (concat pieces),
        read.length_front d t
            (lists_of f dv),
      ) in
      let all = gapless_parts (start_size * length (lists_of f dv)) 0 (list_part b) pieces
      (λ u h. begins u (rw count at h)) (λ u h. lasts u (rw count at h)) in
      let whole : gapless (start_size * length (lists_of f dv)) (map (list_part b) (up_to (length (lists_of f dv))))
      (start_size * length (lists_of f dv) + length (concat pieces)) ≡ true = subst
      (λ (n : ℕ). gapless (start_size * length (lists_of f dv)) (map (list_part b) (up_to n)) (start_size * length (lists_of f dv) + length (concat pieces))
      ≡ true) (read.count_lists d t (lists_of f dv)) all in
      subst (λ (n : ℕ). gapless (start_size * n) (map (list_part b) (up_to n)) (length b) ≡ true) (count_lists f dv)
      (subst (λ (m : ℕ). gapless (start_size * length (lists_of f dv)) (map (list_part b) (up_to (length (lists_of f dv)))) m ≡ true) (sym end) whole)
    where
      begins : (u : ℕ) → u < N → (list_part b (0 + u)).start ≡ Rattle.theory.specs.FileLaws.start_of (start_size * length (lists_of f dv)) pieces u
      begins u h = unfold list_part in rw zero-add (read.list_start_law d t (lists_of f dv) u (in_lists u h)
          (Rattle.theory.specs.Built.access_small f dv fine))

      lasts : (u : ℕ) → u < N → (list_part b (0 + u)).size ≡ length (get_or pieces u [])
      lasts u h =
          unfold list_part in
          rw (zero-add, read.list_count_law d t (lists_of f dv) u (in_lists u h) (Rattle.theory.specs.Built.access_small f dv fine) (small_list u h))
          (sym (ap length (read.its_list d t (lists_of f dv) u (in_lists u h) (Rattle.theory.specs.Built.access_small f dv fine))
          ∙ read.length_list d t u (get_or (lists_of f dv) u [])))

  entry_is : (u : ℕ) → u < N → (i : ℕ) → i < length (get_or (lists_of f dv) u []) → access_entry b u i ≡ read.entry_of d t u (get_or (get_or (lists_of f dv) u []) i 0)
  entry_is u h i q =
      read.entry_read d t (lists_of f dv) u (in_lists u h) (Rattle.theory.specs.Built.access_small f dv fine) i q
      (omega (arith, (index_of_law (get_or (get_or (lists_of f dv) u []) i 0) t (listed u h i q)).0, few_transit f dv, fine.few)) (fine.near u _ h)

  entry_fine : (u : ℕ) → u < N → (i : ℕ) → i < length (get_or (lists_of f dv) u []) → entry_broken (length t) b u i ≡ false
  unfolding entry_broken
  entry_fine u h i q =
      let e = entry_is u h i q in
      let x : leb (length t) (access_entry b u i).index ≡ false = rw e (lt-leb (length t) _
      (index_of_law (get_or (get_or (lists_of f dv) u []) i 0) t (listed u h i q)).0) in
      let y : value b (access_at b u i + number_size) ≡ d u (get_or (get_or (lists_of f dv) u []) i 0) =
      ap (λ z. z.distance) (entry_same i) ∙ ap (λ z. z.distance) e in
      rw x (value_fine b (access_at b u i + number_size) _ y (bounded u _ h))
    where
      entry_same : (i : ℕ) → record { index = word16 b (access_at b u i); distance = value b (access_at b u i + number_size) } ≡ access_entry b u i
      entry_same i = unfold access_entry in refl

  access_rises : (u : ℕ) → rising (access_of f dv u) ≡ true
  unfolding access_nodes
  access_rises u = rising_filter _ (up_to (length (cells_of f dv))) (rising_range 0 (length (cells_of f dv)))

  list_fine : (u : ℕ) → u < N → list_broken (length t) b u ≡ false
  unfolding list_broken indexes rising
  list_fine u h =
      let L = get_or (lists_of f dv) u [] in
      let small = Rattle.theory.specs.Built.access_small f dv fine in
      let read_back : access_list b u ≡ map (read.entry_of d t u) L = read.list_read d t (lists_of f dv) u (in_lists u h) small (small_list u h)
      (λ i q. omega (arith, (index_of_law (get_or L i 0) t (listed u h i q)).0, few_transit f dv, fine.few)) (λ i q. fine.near u _ h) in
      let count : list_count b u ≡ length L = read.list_count_law d t (lists_of f dv) u (in_lists u h) small (small_list u h) in
      let indexes : map (λ e. e.index) (map (read.entry_of d t u) L) ≡ map (λ a. index_of a t) L = map-map (λ e. e.index) (read.entry_of d t u) L in
      let rises : rising (map (λ a. index_of a t) L) ≡ true = rising_index t L transit_rises (rw (list_of_law f dv u h) (access_rises u))
      (λ x m. in_transit f dv fine u h (rw (list_of_law f dv u h) at m)) in
      rw (read_back, indexes, rises, count) (any_none (entry_broken (length t) b u) (up_to (length L))
      (λ i m. entry_fine u h i (omega (arith, range→ 0 (length L) i m))))

  rule10 : access_broken (node_count (node_body o)) (transit_count (transit_body o)) (access_body o) ≡ false
  unfolding access_broken
  rule10 = rw (same_count, count_transit f dv fine, bodies_of f dv fine 5 (omega arith), layout)
      (any_none (list_broken (length t) b) (up_to N) (λ u m. list_fine u (omega (arith, range→ 0 N u m))))

  -- ---- rule 11
  abbrev pairs : List (ℕ × ℕ)
  pairs = concat_map (λ a. map (pair a) t) t

  abbrev of_pair : ℕ × ℕ → Distance
  of_pair p = d p.0 p.1

  squares : table_bytes d t ≡ concat_map (λ p. value_bytes (of_pair p)) pairs
  unfolding table_bytes
  squares = flat (λ a c. value_bytes (d a c)) t t

  table_length : length (table_bytes d t) ≡ value_size * (length t * length t)
  table_length = read.length_table d t ∙ mul_assoc value_size (length t) (length t)

  count_pairs : length pairs ≡ length t * length t
  count_pairs =
      let size = read.length_concat_map (λ p. value_bytes (of_pair p)) value_size (λ p. read.length_value (of_pair p)) pairs in
      omega (arith, table_length, ap length squares, size)

  pair_node : {p : ℕ × ℕ} → Memᴰ p pairs → p.0 < N
  pair_node {p} m =
      let r = concat_map→ (λ a. map (pair a) t) t m in
      let q = map→ (pair r.0) t r.2 in
      rw (ap (λ z. z.0) q.2) (transit_node r.1)

  square_fine : (i : ℕ) → i < length t * length t → value_broken (table_bytes d t) (value_size * i) ≡ false
  square_fine i h =
      let q : i < length pairs = rw count_pairs h in
      let n : (get_or pairs i (0, 0)).0 < N = pair_node (get_d_mem pairs i (0, 0) q) in
      let e : table_bytes d t ≡ concat_map (λ p. value_bytes (of_pair p)) pairs ++ [] = squares ∙ sym (append-nil _) in
      let v : value (table_bytes d t) (value_size * i) ≡ of_pair (get_or pairs i (0, 0)) = rw e (read.value_at of_pair pairs [] i (0, 0) q (fine.near _ _ n)) in
      value_fine (table_bytes d t) (value_size * i) _ v (bounded _ _ n)

  rule11 : table_broken (transit_count (transit_body o)) (table_body o) ≡ false
  unfolding table_broken cell_broken
  rule11 =
      rw (count_transit f dv fine, bodies_of f dv fine 6 (omega arith), eq-eqb (length (table_bytes d t)) (value_size * (length t * length t)) table_length)
      (any_none (cell_broken (table_bytes d t)) (up_to (length t * length t)) (λ i m. square_fine i (omega (arith, range→ 0 (length t * length t) i m))))

  pub no_rule : first_broken (shape_rules o) ≡ 0
  no_rule = shaped_all o (record {
    contents = rule1;
    bodies = rule2;
    sound = record { nodes_rule = rule3; coordinates = rule4; edges_rule = rule5; some_edge = rule6; closed = rule7 };
    plain = rule21;
    grid = rule8;
    transit = rule9;
    access = rule10;
    table = rule11;
  })

-- ---- what a reader of the oracle finds
module _ (f : Bytes) (dv : Division) (ok : Passed f dv) where
  pub transit_read : words16 (transit_body (oracle f dv)) ≡ transit_of f dv
  transit_read = ap words16 (bodies_of f dv (good f dv ok) 4 (omega arith))
      ∙ words_read (transit_of f dv) (λ i q. omega (arith, transit_node f dv ok (get_d_mem (transit_of f dv) i 0 q), few f ok.sound))

  pub table_built : (i j : ℕ) → i < length (transit_of f dv) → j < length (transit_of f dv)
      → table_entry (table_body (oracle f dv)) (transit_count (transit_body (oracle f dv))) i j ≡ distance (network f) (get_or (transit_of f dv) i 0)
      (get_or (transit_of f dv) j 0)
  table_built i j p q =
      rw (bodies_of f dv (good f dv ok) 6 (omega arith), count_transit f dv (good f dv ok))
      (read.table_read (distance (network f)) (transit_of f dv) i j p q ((good f dv ok).near _ _ (transit_node f dv ok (get_d_mem (transit_of f dv) i 0 p))))

-- The theorem.
pub built_well_shaped : (f : Bytes) (dv : Division) → accepted f dv ≡ true → well_shaped (oracle f dv) ≡ true
unfolding well_shaped
built_well_shaped f dv h = rw (no_rule f dv (all_passed f dv h))
